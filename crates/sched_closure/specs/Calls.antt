-- What takes turns where a closure is called: retries and repeats, and the machines that stand for them.
use Rattle.std.specs.Prelude.{◌≡◌}
use Rattle.sched_ticket_draws.specs.Grants.{Grants}
use Rattle.sched_task_law.specs.Kind.{Kind}
use Rattle.sched_task_law.specs.Past.{is_under_way, waits_for}
use Rattle.sched_run_machine.specs.Drives.{Driving}
use Rattle.sched_run_machine.specs.Retrying.{Retrying, HostPoll}
use Rattle.sched_run_machine.specs.Machine.{Machine, IsMachineOf, PollsEach}
use Rattle.sched_closure.specs.Turns.{Turning}

module _ {D : Type 0} (grants : Grants D) (kind : Kind) where
  abbrev pub task_turning : Turning (Retrying D)
  task_turning = record {
    running = λ v. is_under_way v.past.runs v.past.begun;
    due = λ v start. start ≡ waits_for v.past;
    polls = HostPoll grants kind;
  }

  abbrev pub machine_turning : {R : Type 0} → Driving R → Turning (Machine R D)
  machine_turning driving = record {
    running = λ m. m.under_way;
    due = λ m start. (v : Retrying D) → IsMachineOf driving kind grants m v → start ≡ waits_for v.past;
    polls = PollsEach driving kind grants;
  }
