-- The loop keeps a pass of the budget.
use Rattle.sched_ticket.specs.Held.{IsOf}
use Rattle.sched_ticket_tests.proofs.tests.budgets.split_times.Given as goal

abbrev pub invariant-loop : goal.invariant-loop
invariant-loop l = IsOf l.budget l.pass
