-- Worked polls, computed by the definitions.
use Rattle.std.specs.Prelude.{◌≡◌, ℕ, true, false, [], ◌∷◌, Some, None, refl}
use Rattle.sched_time.specs.declared.numbers.Tick.{Tick}
use Rattle.sched_time.specs.declared.starts.Decision.TheVariants.{Done}
use Rattle.sched_plan.specs.Datum.{num}
use Rattle.sched_plan.specs.Schedule.{leaf}
use Rattle.sched_plan.specs.declared.leaves.Leaf.TheVariants.{Recurs, Spaced}
use Rattle.sched_effect.specs.declared.ran.Ran.TheVariants.{Won, Lost}
use Rattle.sched_task.specs.declared.endings.How.TheVariants as how
use Rattle.sched_task_law.specs.Deadline.{earlier}
use Rattle.sched_task_law.specs.Kind.{retry, repeat}
use Rattle.sched_task_law.specs.Past.{Past, nothing_until, decision_on, schedule_is_done, recurrences, is_too_late}
use Rattle.sched_task_law.specs.Past.{waits_for}
use Rattle.sched_task_law.specs.Poll.{ends, stops_done, stops_denied, recurs, runs_on, after}

abbrev at_moment : ℕ → Tick
at_moment n = record { now = n; words = 0 ∷ 0 ∷ 0 ∷ 0 ∷ [] }

-- a failure at 10 under `spaced 100`: a ticket, and the start at 110
abbrev lost_once : Past
lost_once = after retry (nothing_until (leaf (Spaced 100)) None) (at_moment 10) (recurs (Lost 7))

lost_once_waits : waits_for lost_once ≡ Some 110
lost_once_waits = refl

lost_once_granted : lost_once.granted ≡ 1
lost_once_granted = refl

lost_once_recurs : recurrences None lost_once.driver ≡ 1
lost_once_recurs = refl

-- and a success at 110
won_then : after retry lost_once (at_moment 110) (ends (Won 1)) ≡ record {
  driver = record {
    plan = leaf (Spaced 100);
    journal = record { now = 10; words = 0 ∷ 0 ∷ 0 ∷ 0 ∷ []; input = num 7 } ∷ [];
  };
  deadline = None;
  runs = Lost 7 ∷ Won 1 ∷ [];
  begun = 10 ∷ 110 ∷ [];
  over = Some how.Won;
  denied = false;
  granted = 1;
}
won_then = refl

-- a failure where the budget has no ticket, though the schedule goes on
denied_at_once : (after retry (nothing_until (leaf (Spaced 100)) None) (at_moment 10) (stops_denied (Lost 7))).over ≡
    Some how.BudgetRefused
denied_at_once = refl

-- a schedule that is done at the first failure
done_at_once : (after retry (nothing_until (leaf (Recurs 0)) None) (at_moment 0) (stops_done (Lost 9))).over ≡
    Some how.ScheduleDone
done_at_once = refl

-- a repeat draws no ticket
repeated_once : (after repeat (nothing_until (leaf (Recurs 2)) None) (at_moment 0) (recurs (Won 1))).granted ≡ 0
repeated_once = refl

-- a run that takes two polls is noted at the first
noted_once : (after repeat (after repeat (nothing_until (leaf (Recurs 2)) None) (at_moment 3) runs_on) (at_moment 4)
    runs_on).begun ≡ 3 ∷ []
noted_once = refl

-- A deadline: a start at it is planned and one past it is not, with which the schedule is done.
abbrev lost_until : ℕ → Past
lost_until deadline = after retry (nothing_until (leaf (Spaced 100)) (Some deadline)) (at_moment 10) (recurs (Lost 7))

waits_to_the_deadline : waits_for (lost_until 110) ≡ Some 110
waits_to_the_deadline = refl

done_before_the_deadline : schedule_is_done (Some 109) (lost_until 109).driver ≡ true
done_before_the_deadline = refl

decided_late : decision_on (Some 109) (leaf (Spaced 100)) (lost_until 109).driver.journal ≡ Done
decided_late = refl

-- a second run at the deadline is in time, and one past it is not; a first run never is too late
second_in_time : is_too_late (lost_until 110) 110 ≡ false
second_in_time = refl

second_too_late : is_too_late (lost_until 110) 111 ≡ true
second_too_late = refl

first_in_time : is_too_late (nothing_until (leaf (Spaced 100)) (Some 5)) 6 ≡ false
first_in_time = refl

-- of two deadlines the earlier one counts
earlier_of_two : (earlier (Some 7) (Some 5) ≡ Some 5) × (earlier (Some 7) None ≡ Some 7)
    × (earlier None (Some 5) ≡ Some 5)
earlier_of_two = (refl, refl, refl)
