-- Each round goes on from the share, within the worker's turns.
use Rattle.std.proofs.Common.{refl, ap, ◌∙◌, arith}
use Rattle.sched_wheel.proofs.Polls.{left_same, left_then, left_within}
use Rattle.sched_pool_worker.proofs.Shares.{went_nowhere, went_then, of_same}
use Rattle.sched_pool_worker.proofs.works.work_through.Goals as goal

pub loop-claims-init : goal.loop-claims-init
loop-claims-init g c = record {
  of = c.requires.of;
  went_on = went_nowhere _;
  held = omega arith;
  turns = omega arith;
  hold = refl;
  polls = left_same _;
}

pub loop-claims-preserved : goal.loop-claims-preserved
loop-claims-preserved g c =
    let before = c.loop-claims.invariant in
    record {
      of = of_same _ _ _ c.work_some.ensures.pass c.claim_some.ensures.of;
      went_on =
          went_then _ _ _ before.went_on (went_then _ _ _ c.claim_some.ensures.went_on c.work_some.ensures.went_on);
      held = omega (
        arith,
        before.held,
        before.hold,
        ap (λ p. p.hold) c.station.view_is,
        c.claim_some.ensures.held,
        c.work_some.ensures.fewer,
      );
      turns = omega (arith, before.turns, c.in-Ok.ensures.turns);
      hold = c.work_some.ensures.hold ∙ before.hold;
      polls = left_then _ _ _ _ _ _ (omega arith) before.polls c.in-Ok.ensures.used;
    }

pub returns-in-Err-TurnsSpent-clause-went_on : goal.returns-in-Err-TurnsSpent-clause-went_on
returns-in-Err-TurnsSpent-clause-went_on g c =
    went_then _ _ _ c.loop-claims.invariant.went_on
    (went_then _ _ _ c.claim_some.ensures.went_on c.work_some.ensures.went_on)

pub returns-in-Err-NoMemory-clause-went_on : goal.returns-in-Err-NoMemory-clause-went_on
returns-in-Err-NoMemory-clause-went_on g c =
    went_then _ _ _ c.loop-claims.invariant.went_on
    (went_then _ _ _ c.claim_some.ensures.went_on c.work_some.ensures.went_on)

pub returns-clause-went_on : goal.returns-clause-went_on
returns-clause-went_on g c = went_then _ _ _ c.loop-claims.invariant.went_on c.claim_some.ensures.went_on

pub returns-in-Err-TurnsSpent-clause-polls : goal.returns-in-Err-TurnsSpent-clause-polls
returns-in-Err-TurnsSpent-clause-polls g c =
    let turns = c.loop-claims.invariant.turns in
    left_then _ _ _ _ _ _ (omega (arith, turns)) c.loop-claims.invariant.polls c.work_some.ensures.polls

pub returns-in-Err-NoMemory-clause-polls : goal.returns-in-Err-NoMemory-clause-polls
returns-in-Err-NoMemory-clause-polls g c =
    let turns = c.loop-claims.invariant.turns in
    left_then _ _ _ _ _ _ (omega (arith, turns)) c.loop-claims.invariant.polls c.work_some.ensures.polls

pub returns-clause-polls : goal.returns-clause-polls
returns-clause-polls g c = left_within _ _ _ _ c.loop-claims.invariant.turns c.loop-claims.invariant.polls
