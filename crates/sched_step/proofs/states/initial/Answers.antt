-- The initial state fits its plan at every moment.
use Rattle.std.proofs.Common.{IsTrue, subst, sym}
use Rattle.sched_step.specs.Progress.{fits}
use Rattle.sched_step.proofs.laws.Fits.{fits_first}
use Rattle.sched_step.proofs.states.initial.Goals as goal

pub returns-clause-fits : goal.returns-clause-fits
returns-clause-fits c = λ now.
    subst (λ p. IsTrue (fits c.args.plan.now p now)) (sym c.in_ok-tree.ensures) (fits_first c.args.plan.now now)
