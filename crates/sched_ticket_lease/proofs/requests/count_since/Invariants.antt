-- As many as the slices so far have.
use Rattle.std.proofs.Common.{◌≡◌, min, take}
use Rattle.sched_ticket_lease.specs.Requests.{since_then}
use Rattle.sched_ticket_lease.proofs.requests.count_since.Given as goal

abbrev pub invariant-loop-slice : goal.invariant-loop-slice
invariant-loop-slice l = l.count ≡ min (since_then l.since (take l.slice-index l.slices)) 18446744073709551615
