-- What a report is told of the events of a storm: all of it, or what is of the requests of one population.
use Rattle.std.specs.Prelude.{ℕ, ◌==◌, if◌then◌else◌, List, [], ◌∷◌, ◌++◌, Option, Some, None}
use Rattle.sched_plan.specs.Schedule.{Schedule}
use Rattle.sched_storm_trace.specs.Trace.{Event}
use Rattle.sched_storm_report.specs.Peer.{none_busy}
use Rattle.sched_storm_report.specs.declared.moments.Moment.{Moment}
use Rattle.sched_storm.specs.Populations.{population_of}
use Rattle.sched_storm.specs.Plays.{Stage, Shared, played}
use Rattle.sched_storm.specs.declared.parameters.Parameters.{Parameters}

-- A report of one population is told of its own requests, and of no work that stands at the peer: that is of all.
abbrev pub told_on : Parameters → Option ℕ → ℕ → Moment → List Moment
told_on p None r m = m ∷ []
told_on p (Some k) r m = if population_of p r == k then record m { busy = none_busy } ∷ [] else []

abbrev pub reported : Parameters → (ℕ → Schedule) → Option ℕ → Shared → List (Event Stage) → List Moment
reported p plans of s [] = []
reported p plans of s (e ∷ es) =
    let a = played p plans s e.request e.due in
    told_on p of e.request a.told ++ reported p plans of a.shared es
