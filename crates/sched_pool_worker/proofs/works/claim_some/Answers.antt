-- Each claim goes on from the share, holds no more jobs than it may, and leaves the jobs to do.
use Rattle.std.proofs.Common.{[], ◌∷◌, length, refl, ap, ◌∙◌, length-append, arith}
use Rattle.sched_pool_worker.proofs.Shares.{went_nowhere, went_then, went_on_by, to_do_as_before}
use Rattle.sched_pool_worker.proofs.works.claim_some.Goals as goal

pub loop-share-init : goal.loop-share-init
loop-share-init g c = record { of = c.requires.of; went_on = went_nowhere _; held = omega arith; to_do = refl }

pub loop-share-preserved : goal.loop-share-preserved
loop-share-preserved g c =
    let claimed = c.in-Some.ensures in
    let before = c.loop-share.invariant in
    record {
      of = claimed.of;
      went_on = went_then _ _ _ before.went_on (went_on_by _ _ _ claimed.some claimed.tickets.0);
      held = omega (
        arith,
        c.loop-share-test.true,
        ap length c.active.ensures.active,
        ap length claimed.some.active,
        length-append c.loop-share.share.active (c.in-Some._job ∷ []),
      );
      to_do = to_do_as_before _ _ _ claimed.some claimed.tickets.0 claimed.tickets.1 ∙ before.to_do;
    }
