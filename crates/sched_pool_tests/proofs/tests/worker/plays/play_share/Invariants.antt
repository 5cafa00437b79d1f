-- The loop keeps a share of the claims.
use Rattle.sched_pool_claim.specs.Portion.{IsPartOf}
use Rattle.sched_pool_tests.proofs.tests.worker.plays.play_share.Given as goal

abbrev pub invariant-loop-step : goal.invariant-loop-step
invariant-loop-step g l = IsPartOf l.work.claims.now l.share
