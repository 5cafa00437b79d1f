-- A worked example, computed with the definitions alone: three requests at moment 0, a reserve of one ticket each 100
-- ms and a share of a third. Two jobs draw the two tickets of the window 0, the third fails there and is refused, and
-- the first draws the reserves of the windows 1 and 2.
use Rattle.std.proofs.Common.{ℕ, [], ◌∷◌, true, Some, None, refl, arith}
use Rattle.sched_plan.specs.Datum.{num}
use Rattle.sched_plan.specs.Schedule.{leaf}
use Rattle.sched_plan.specs.declared.leaves.Leaf.TheVariants.{Forever}
use Rattle.sched_ticket_quota.specs.View.{first_view}
use Rattle.sched_ticket_quota.specs.declared.view.Terms.{Terms}
use Rattle.sched_ticket_quota.specs.declared.view.View.{View}
use Rattle.sched_effect.specs.declared.ran.Ran.TheVariants as ran
use Rattle.sched_task.specs.declared.endings.How.TheVariants.{BudgetRefused}
use Rattle.sched_task_law.specs.Past.{Past}
use Rattle.sched_pool_scripted.specs.QuotaBatch.{last_window, IsFull}

abbrev k : Terms
k = record { reserve = 1; share = 334; period = 100 }

-- what all passes have in the end
abbrev all : View
all = record (first_view k) { tickets = 8589934592 ∷ 4294967296 ∷ 1 ∷ 0 ∷ []; requests = 2 ∷ 1 ∷ 0 ∷ [] }

-- a job whose only run failed at this moment
abbrev failed_at : ℕ → Past
failed_at now = record {
  driver = record {
    plan = leaf Forever;
    journal = record { now = now; words = 0 ∷ 0 ∷ 0 ∷ 0 ∷ []; input = num 9 } ∷ [];
  };
  deadline = None;
  runs = ran.Lost 9 ∷ [];
  begun = 0 ∷ [];
  over = Some BudgetRefused;
  denied = true;
  granted = 0;
}

pub refused_at_0 : IsFull k all (last_window k (failed_at 0))
refused_at_0 = refl

pub refused_at_250 : IsFull k all (last_window k (failed_at 250))
refused_at_250 = refl

-- in a window that gave nothing it could not be refused
pub not_at_300 : IsFull k all (last_window k (failed_at 300)) → ⊥
not_at_300 e = absurd (omega (arith, e))
