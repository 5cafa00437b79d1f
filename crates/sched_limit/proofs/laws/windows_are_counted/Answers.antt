-- A throttle's windows count, and a closed one is final.
use Rattle.sched_limit.proofs.Throttles.{closed_is_final, closed_is_shut, each_is_counted}
use Rattle.sched_limit.proofs.laws.windows_are_counted.Goals as goal

pub returns-clause-closed : goal.returns-clause-closed
returns-clause-closed c = closed_is_final

pub returns-clause-shut : goal.returns-clause-shut
returns-clause-shut c = closed_is_shut

pub returns-clause-counted : goal.returns-clause-counted
returns-clause-counted c = each_is_counted
