-- One that is not over ends as cancelled, and each task that it may stand for gives up.
use Rattle.std.proofs.Common.{refl, sym, ◌∙◌}
use Rattle.sched_run_machine.proofs.Calls.{over_stays, cancels, cancels_left, seen}
use Rattle.sched_run_machine.proofs.machine.Machine.cancel.Goals as goal

pub returns-then-is_some-clause-stands : goal.returns-then-is_some-clause-stands
returns-then-is_some-clause-stands g c =
    over_stays _ _ _ g.met.D.Draws.lawful _ (rw (← c.self.view_is) (sym c.is_some.ensures ∙ c.if-is_some.true))

pub returns-clause-cancelled : goal.returns-clause-cancelled
returns-clause-cancelled g c =
    let isnt = sym c.is_some.ensures ∙ c.if-is_some.false in
    rw (← c.self.view_is, isnt) (c.ended.ensures, refl)

pub returns-clause-stands : goal.returns-clause-stands
returns-clause-stands g c =
    cancels _ _ _ g.met.D.Draws.lawful _ _ (returns-clause-cancelled g c)

pub invariant_of-self : goal.invariant_of-self
invariant_of-self g c =
    cancels_left _ _ _ g.met.D.Draws.lawful c.args.self.now _ (returns-clause-cancelled g c)
    (seen _ _ _ g.met.D.Draws.lawful _ c.args.self.now c.self.view_is c.self.invariant)
