-- Turns of the machine whose limit admitted the first call, or a machine that has not begun.
use Rattle.std.proofs.Common.{refl, sym, ◌∙◌}
use Rattle.sched_task_law.specs.Kind.{a_retry}
use Rattle.sched_closure.proofs.Goes.{goes_so}
use Rattle.sched_closure.proofs.limits.limited_call.Given.{C-step}
use Rattle.sched_closure.proofs.limits.limited_call.Goals as goal

pub returns-then-not-is_admitted-clause-asks : goal.returns-then-not-is_admitted-clause-asks
returns-then-not-is_admitted-clause-asks g c = record {
  moment = c.now.result;
  asked = c.admit-is_admitted.new.self;
  between = c.now.new.self;
  told = c.now.ensures;
  admits = rw (c.if-not-is_admitted.true) at c.admit-is_admitted.ensures;
  goes = tt;
  rests = (c.new-retry.ensures.begins, refl, refl);
}

pub returns-clause-asks : goal.returns-clause-asks
returns-clause-asks g c =
    let turns = rw c.new-retry.ensures.begins at c.call_on-outcome.ensures.turns in
    let ending = c.retry_ending-ending in
    let begun = rw c.new-retry.ensures.begins at c.new-retry.ensures.stands in
    record {
      moment = c.now.result;
      asked = c.admit-is_admitted.new.self;
      between = c.now.new.self;
      told = c.now.ensures;
      admits = rw (c.if-not-is_admitted.false) at c.admit-is_admitted.ensures;
      goes = (
        turns.1,
        goes_so g.S.Drives.driving (a_retry g.S.Drives.driving.keeps) g.D.Draws.grants g.K.Clock.tells
            g.K.Clock.waits (C-step g) g.I.Coded.coded
            g.F.Coded.coded _ _ _ _ _ _ _ turns.1 turns.0 _ _ _ turns.2 ending.ensures.gave
            (sym c.over.ensures ∙ ending.ensures.over) begun,
      );
      rests = tt;
    }
