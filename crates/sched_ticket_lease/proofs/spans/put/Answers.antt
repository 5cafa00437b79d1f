-- The spans before and after it are in one piece with it.
use Rattle.std.proofs.Common.{arith}
use Rattle.sched_ticket_lease.proofs.Weights.{one-more, joined}
use Rattle.sched_ticket_lease.proofs.spans.put.Goals as goal

pub returns-clause-weight : goal.returns-clause-weight
returns-clause-weight c q =
    let more = one-more _ _ _ c.push_reserved.ensures.items q in
    let front = c.take_ending-first.ensures.weight q in
    let back = c.take_beginning-end.ensures.weight q in
    let low = joined q c.take_ending-first.result c.args.span.first c.args.span.end c.take_ending-first.ensures.before
    (let some = c.args.span.some in omega arith) in
    let high = joined q c.take_ending-first.result c.args.span.end c.take_beginning-end.result
    (let some = c.args.span.some in let before = c.take_ending-first.ensures.before in omega arith)
    c.take_beginning-end.ensures.after in
    omega arith
