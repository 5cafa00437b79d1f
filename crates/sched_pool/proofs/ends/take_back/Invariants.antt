-- The jobs taken back so far have the tickets of the pass, and there is room for the rest.
use Rattle.std.proofs.Common.{◌≡◌, ◌+◌, ◌≤◌, length, vec_len, vec_capacity}
use Rattle.sched_ticket.specs.Lists.{total}
use Rattle.sched_task_law.specs.Past.{Past}
use Rattle.sched_pool.specs.Ends.{IsEnd}
use Rattle.sched_pool.proofs.ends.take_back.Given as goal

abbrev pub invariant-loop-job : goal.invariant-loop-job
invariant-loop-job g l = record {
  ends : IsEnd g.N.Naming.budget (length l.yielded) l.fn.pass l.ends.items l.pass
      (total (λ (v : Past). v.granted) l.ends.items);
  handed_in : l.handed_in ≡ length l.fn.pass.has.tickets;
  left : length l.yielded + l.job-iterator.rest.len ≡ vec_len l.fn.jobs;
  room : vec_len l.fn.jobs ≤ vec_capacity l.ends;
}
