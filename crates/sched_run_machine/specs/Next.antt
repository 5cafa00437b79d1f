-- What a host is to do for a retry or a repeat.
use Rattle.std.specs.Prelude.{◌≡◌, ℕ, Bool, true, false, if◌then◌else◌, Option, Some, None}
use Rattle.sched_task.specs.declared.endings.How.{How}
use Rattle.sched_task_law.specs.Past.{Past, is_under_way, next_start_by}
use Rattle.sched_run_machine.specs.declared.next.Next.{Next}
use Rattle.sched_run_machine.specs.declared.next.Next.TheVariants.{Poll, Run, Wait, Over}

-- to wait for the start planned, or to poll where none is
abbrev pub next_by_start : Option ℕ → Next
next_by_start (Some start) = Wait start
next_by_start None = Poll

abbrev pub next_by_ending : Past → Option How → Next
next_by_ending v (Some how) = Over how
next_by_ending v None =
    if is_under_way v.runs v.begun then Run else next_by_start (next_start_by v.deadline v.driver)

-- what the host is to do: nothing more where it is over, to run where a run is under way, or else to wait or to poll
abbrev pub next_of : Past → Next
next_of v = next_by_ending v v.over

-- the moment to wait for, if any
abbrev pub start_in : Next → Option ℕ
start_in (Wait start) = Some start
start_in Poll = None
start_in Run = None
start_in (Over how) = None

-- what is to be done tells how a machine is over, and whether a run is under way
abbrev pub Finds : Option How → Bool → Next → Type 0
Finds over running (Over ended) = over ≡ Some ended
Finds over running Run = (over ≡ None) × (running ≡ true)
Finds over running Poll = (over ≡ None) × (running ≡ false)
Finds over running (Wait start) = (over ≡ None) × (running ≡ false)
