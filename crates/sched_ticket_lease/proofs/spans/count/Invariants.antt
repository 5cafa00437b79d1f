-- As many as the spans so far have.
use Rattle.std.proofs.Common.{◌≡◌, min, take}
use Rattle.sched_ticket_lease.specs.Spans.{weight}
use Rattle.sched_ticket_lease.proofs.spans.count.Given as goal

abbrev pub invariant-loop-span : goal.invariant-loop-span
invariant-loop-span l = l.count ≡ min (weight (λ _. 1) (take l.span-index l.spans)) 18446744073709551615
