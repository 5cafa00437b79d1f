-- What a node over one schedule makes of an answer.
use Rattle.std.specs.Prelude.{ℕ, Bool, false, if◌then◌else◌, nat_lt}
use Rattle.sched_time.specs.declared.starts.Decision.{Decision}
use Rattle.sched_time.specs.declared.starts.Decision.TheVariants.{Go, Done}
use Rattle.sched_plan.specs.Datum.{Datum, unit}
use Rattle.sched_plan.specs.Delays.{moved}
use Rattle.sched_plan.specs.declared.history.Answer.{Answer}

-- the answer, but done
abbrev pub ended : Answer → Answer
ended a = record { output = a.output; decision = Done }

-- the answer, but done where this is so
abbrev pub ended_where : Bool → Answer → Answer
ended_where over a = if over then ended a else a

-- whether it goes on later than this moment
abbrev pub goes_past : ℕ → Decision → Bool
goes_past moment (Go start) = nat_lt moment start
goes_past moment Done = false

-- the decision, at a start moved by what is made of its delay from now on
abbrev pub moved_decision : (ℕ → ℕ) → ℕ → Decision → Decision
moved_decision delay now (Go start) = Go (moved delay now start)
moved_decision delay now Done = Done

-- the answer with its delay from `now` on changed
abbrev pub delayed : (ℕ → ℕ) → ℕ → Answer → Answer
delayed delay now a = record { output = a.output; decision = moved_decision delay now a.decision }

-- the answer with this output in place of its own
abbrev pub giving : Datum → Answer → Answer
giving output a = record { output = output; decision = a.decision }

-- the decision alone
abbrev pub silent : Answer → Answer
silent a = giving unit a
