-- If `are_just` is true, each job that was refused was refused justly.
use Rattle.std.proofs.Common.{sym, subst}
use Rattle.std.proofs.lemmas.List.{take_all}
use Rattle.std.proofs.lemmas.List.Elements.{All-same, All-more}
use Rattle.sched_pool_scripted.specs.QuotaBatch.{IsJust}
use Rattle.sched_pool_scripted.proofs.refusals.are_just.Goals as goal

pub loop-end-preserved : goal.loop-end-preserved
loop-end-preserved c =
    let P = IsJust c.args.terms.now c.args.requests c.args.windows.now in
    All-more P c.args.ends.now c.loop-end.end-index c.end-item.result c.loop-end-test.true c.loop-end.invariant
    (subst P c.end-item.is (c.is_just.ensures c.if-not-is_just.false))

pub returns : goal.returns
returns c =
    let ends = c.args.ends.now in
    let P = IsJust c.args.terms.now c.args.requests c.args.windows.now in
    λ _. All-same P ends _ (sym (take_all c.loop-end.end-index ends c.loop-end-test.false)) c.loop-end.invariant
