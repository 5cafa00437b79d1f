-- What a take is told is what the machine does.
use Rattle.sched_pace.proofs.Takes as takes
use Rattle.sched_pace.proofs.laws.told_is_done.Goals as goal

pub returns-clause-granted : goal.returns-clause-granted
returns-clause-granted c = takes.grant_is_done

pub returns-clause-refused : goal.returns-clause-refused
returns-clause-refused c = takes.refusal_is_done
