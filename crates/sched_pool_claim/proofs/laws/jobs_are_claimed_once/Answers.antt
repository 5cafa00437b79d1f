-- Each job is claimed once at most, and once exactly where a share was refused.
use Rattle.std.proofs.Common.{ap, ◌∙◌, refl, arith, min}
use Rattle.sched_ticket.specs.Lists.{once_below}
use Rattle.sched_ticket.proofs.Sums.{once_below-le}
use Rattle.sched_pool_claim.proofs.Portions.{min_of_more}
use Rattle.sched_pool_claim.proofs.laws.jobs_are_claimed_once.Goals as goal

pub returns-clause-once : goal.returns-clause-once
returns-clause-once c = λ jobs s kept job.
    omega (arith, c.tickets_stand_once.ensures.once _ s kept refl job, once_below-le job (min kept.drawn jobs))

pub returns-clause-all : goal.returns-clause-all
returns-clause-all c = λ jobs s kept by v at refused job.
    let late = c.tickets_stand_once.ensures.refusals _ s kept by v at refl refused in
    c.tickets_stand_once.ensures.once _ s kept refl job
    ∙ ap (once_below job) (min_of_more kept.drawn jobs (late.1 refl))
