-- Few calls begin in any time.
use Rattle.sched_pace.proofs.Paces as paces
use Rattle.sched_pace.proofs.laws.starts_are_few.Goals as goal

pub returns-clause-standing : goal.returns-clause-standing
returns-clause-standing c = paces.starts_are_fewer

pub returns-clause-all : goal.returns-clause-all
returns-clause-all c = paces.starts_of_all_are_fewer

pub returns-clause-small : goal.returns-clause-small
returns-clause-small c = paces.due_is_small
