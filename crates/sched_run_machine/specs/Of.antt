-- What a task is, of its machine and its runs.
use Rattle.std.specs.Prelude.{◌-◌, Bool, Option, is_some, IfSome, List}
use Rattle.sched_driver.specs.Driven.{Driven}
use Rattle.sched_effect.specs.declared.ran.Ran.{Ran}
use Rattle.sched_ticket_draws.specs.Grants.{Grants}
use Rattle.sched_task.specs.declared.endings.How.{How}
use Rattle.sched_task_law.specs.Kind.{Kind}
use Rattle.sched_task_law.specs.Past.{PastOf}
use Rattle.sched_task_law.specs.Law.{is_refused}
use Rattle.sched_run_machine.specs.Drives.{Driving}
use Rattle.sched_run_machine.specs.Machine.{Machine, IsMachineOf}
use Rattle.sched_run_machine.specs.Retrying.{RetryingOf, along}
use Rattle.sched_run_machine.specs.Runner.{Runs}

module _ {R D : Type 0} (driving : Driving R) (grants : Grants D) where
  -- what a task with this machine and these runs has done: it is denied where its budget refused it
  abbrev pub past_of : Machine R D → Runs → PastOf R
  past_of m r = record {
    driver = m.driver;
    deadline = driving.ends m.driver;
    runs = r.runs;
    begun = r.begun;
    over = m.over;
    denied = is_refused m.over;
    granted = grants.granted m.drawing - m.had;
  }

  abbrev pub made_of : Machine R D → Runs → Bool → RetryingOf R D
  made_of m r untaken = record { past = past_of m r; drawing = m.drawing; had = m.had; untaken = untaken }

  -- the machine is that of a task of this kind with these runs
  abbrev pub IsOf : Kind → Machine R D → Runs → Bool → Type 0
  IsOf kind m r untaken = (d : Driven) × IsMachineOf driving kind grants m (along (made_of m r untaken) d)

  -- and with this ending, which fits how it is over and its runs
  abbrev pub IsTask : Kind → {E : Type 0} → (Option How → List Ran → E → Type 0) → Machine R D → Runs → Option E →
      Type 0
  IsTask kind fits m r ending = IsOf kind m r (is_some ending) × IfSome ending (fits m.over r.runs)
