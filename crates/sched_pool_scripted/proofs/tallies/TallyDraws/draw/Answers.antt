-- A draw keeps the tally's invariant: a window is noted for each ticket.
use Rattle.std.proofs.Common.{refl}
use Rattle.sched_pool_scripted.proofs.Noted.{noted_more}
use Rattle.sched_pool_scripted.proofs.tallies.TallyDraws.draw.Goals as goal

pub invariant_of-self : goal.invariant_of-self
invariant_of-self g c = (
  rw (← c.target.ensures) c.draw.ensures.of,
  noted_more c.self.inside.windows c.with_window.result _ c.in-Ok.ticket c.self.inside.pass.has.tickets
      c.draw.new.self.has.tickets
      refl c.in-Ok.ensures.gained c.self.invariant.1 (rw c.take.ensures.value at c.with_window.ensures),
)

pub invariant_of-self-in-Err : goal.invariant_of-self-in-Err
invariant_of-self-in-Err g c = (rw (← c.target.ensures) c.draw.ensures.of, rw c.in-Err.ensures.kept c.self.invariant.1)

pub returns-in-Ok-clause-drew : goal.returns-in-Ok-clause-drew
returns-in-Ok-clause-drew g c =
    rw (← c.self.view_is, ← c.target.ensures) (refl, _, c.in-Ok.ensures.ok, c.in-Ok.ensures.latest)

pub returns-in-Err-clause-drew : goal.returns-in-Err-clause-drew
returns-in-Err-clause-drew g c =
    rw (← c.self.view_is, ← c.target.ensures) (refl, _, c.in-Err.ensures.err, c.in-Err.ensures.still)
