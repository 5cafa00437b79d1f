-- What is true of a job whenever its lock is free, and of what it shows.
use Rattle.std.specs.Prelude.{◌≡◌, ℕ, ◌+◌, ◌<◌, true, length, None, is_some, IfSome}
use Rattle.std.specs.Coded.{Coded, coded_ℕ}
use Rattle.sched_ticket.specs.Held.{Name, Held}
use Rattle.sched_ticket_draws.specs.Budgets.{OfBudget}
use Rattle.sched_ticket_draws.specs.declared.on_budget.OnBudget.{the_code}
use Rattle.sched_task_law.specs.Past.{Past, bit}
use Rattle.sched_task_law.specs.Law.{is_stop}
use Rattle.sched_run_machine.specs.Retrying.{Retrying}
use Rattle.sched_pool_job.specs.declared.sights.Seen.{Seen}

-- the code of a budget with a pass of it, whatever refers to the budget
abbrev pub coded_of_budget : Coded OfBudget
coded_of_budget = the_code ℕ coded_ℕ

-- the retry draws on this budget, its pass had no ticket before it, and its ending is there where it is over
pub record IsJob (budget : Name) (v : Retrying OfBudget) : Type 0 where
  pub of : v.drawing.budget ≡ budget
  pub had : v.had ≡ 0
  pub untaken : v.untaken ≡ is_some v.past.over

-- what a job shows
pub record IsSeen (s : Seen) : Type 0 where
  -- its tickets are as many as its events, less one where the schedule was done or the budget refused
  pub counted : s.granted + bit (is_stop s.over) ≡ s.events
  -- it waits for a moment only where it is not over and its schedule was stepped
  pub waits : IfSome s.due (λ _. (s.over ≡ None) × (0 < s.events))

-- where the budget refused the job a ticket, the pass has a refusal
abbrev pub IsRefusedBy : Held → Past → Type 0
IsRefusedBy pass v = v.denied ≡ true → 0 < length pass.has.refusals
