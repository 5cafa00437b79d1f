-- What a node over one schedule keeps, as it is stored.
use Rattle.std.specs.Prelude.{None}
use Rattle.sched_step.specs.Phases.{KeptPhases}
use Rattle.sched_step.specs.Progress.{Kept, none_kept, since, round_since, last_at, total, listed}
use Rattle.sched_step.specs.declared.marks.Mark.{Mark}
use Rattle.sched_step.specs.declared.marks.Mark.TheVariants.{Bare, Since, RoundSince, LastAt, Total}
use Rattle.sched_step.specs.declared.kept.KeptShape.{KeptShape}
use Rattle.sched_step.specs.declared.kept.KeptShape.TheVariants.{Bare as Nothing, Marked, Listed}

abbrev pub kept_mark : Mark → Kept
kept_mark Bare = none_kept
kept_mark (Since m) = since m
kept_mark (RoundSince m) = round_since m
kept_mark (LastAt m) = last_at m
kept_mark (Total n) = total n

-- the mark of the same kind before the first event
abbrev pub mark_anew : Mark → Mark
mark_anew Bare = Bare
mark_anew (Since m) = Since None
mark_anew (RoundSince m) = RoundSince None
mark_anew (LastAt m) = LastAt None
mark_anew (Total n) = Total 0

abbrev pub kept_phases : KeptShape → KeptPhases
kept_phases Nothing = record { present = none_kept; next = none_kept }
kept_phases (Marked present next) = record { present = kept_mark present; next = kept_mark next }
kept_phases (Listed outputs) = record { present = listed outputs.present; next = listed outputs.next }
