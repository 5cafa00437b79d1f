-- The board has the jobs so far, with passes of the budget, and the pass keeps its tickets.
use Rattle.std.proofs.Common.{◌≡◌, None}
use Rattle.sched_ticket.specs.Held.{IsOf}
use Rattle.sched_pool_scripted.proofs.boards.boarded.Given as goal

abbrev pub invariant-loop-job : goal.invariant-loop-job
invariant-loop-job g l = record {
  board : l.board ≡ record { jobs = l.job-index; claims = None };
  of : IsOf l.budget l.pass;
  tickets : l.pass.has.tickets ≡ l.fn.pass.has.tickets;
}
