-- What is found among items.
use Rattle.std.specs.Prelude.{◌≡◌, Option, Some, None, Err}
use Rattle.serde_json.specs.Data.{Data, Items}
use Rattle.serde_json.specs.View.{view}
use Rattle.sched_plan_json.specs.declared.faults.ReadFault.{ReadFault}
use Rattle.sched_plan_json.specs.Reading.{Reading}
use Rattle.sched_pool_json.specs.Each.{each}
use Rattle.sched_pool_json.specs.JobsOf.{job_in}
use Rattle.sched_pool_check.specs.declared.items.Item.{Item}
use Rattle.sched_pool_check.specs.JobFaults.{IsRead, FirstItem}

-- of these items this is the first that is refused, or all are read
abbrev pub IsFirstItem : {A : Type 0} → (Data → Reading A) → Items → Option Item → Type 0
IsFirstItem reads items None = IsRead (each reads items)
IsFirstItem reads items (Some i) = FirstItem reads i.fault items i.index (view i.value.now)

-- the value is a job where no fault is told, and else it is refused for this one
abbrev pub JobRefuses : Data → Option ReadFault → Type 0
JobRefuses d None = IsRead (job_in d)
JobRefuses d (Some fault) = (job_in d).answer ≡ Err fault
