-- What a driver is to its callers: a plan, and the journal of the events since the last reset, oldest first.
use Rattle.std.specs.Prelude.{ℕ, List, [], ◌∷◌, ◌++◌, Option, refl}
use Rattle.std.specs.Coded.{Coded, code_by, coded×, coded_list}
use Rattle.sched_plan.specs.Datum.{Datum}
use Rattle.sched_plan.specs.Schedule.{Schedule}
use Rattle.sched_plan.specs.ScheduleCode.{coded_schedule}
use Rattle.sched_plan.specs.EventCode.{coded_event}
use Rattle.sched_plan.specs.declared.history.Event.{Event}
pub use Rattle.sched_driver_tree.specs.Standing.{last_answer}
use Rattle.sched_driver_tree.specs.Standing.{output_given, start_planned}

pub record Driven : Type 0 where
  pub plan : Schedule
  pub journal : List Event

-- a driver is stored as its plan and its journal
abbrev pub coded_driven : Coded Driven
coded_driven =
    code_by (Schedule × List Event) (coded× coded_schedule (coded_list coded_event))
    (λ d. (d.plan, d.journal)) (λ p. record { plan = p.0; journal = p.1 }) (λ _. refl)

-- the output last given
abbrev pub last_output : Driven → Option Datum
last_output d = output_given (last_answer d.plan d.journal)

-- the start planned last; none before the first event, and none where the schedule was done
abbrev pub next_start_of : Driven → Option ℕ
next_start_of d = start_planned (last_answer d.plan d.journal)

-- the driver with one more event in its journal
abbrev pub after : Driven → Event → Driven
after d e = record { plan = d.plan; journal = d.journal ++ e ∷ [] }
