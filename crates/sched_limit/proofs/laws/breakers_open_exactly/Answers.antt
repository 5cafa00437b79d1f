-- A breaker opens at the failure that makes so many, and keeps the last results.
use Rattle.sched_limit.proofs.LastResults.{keeps_the_last, opens_exactly, all_are_in_row}
use Rattle.sched_limit.proofs.laws.breakers_open_exactly.Goals as goal

pub returns-clause-keeps : goal.returns-clause-keeps
returns-clause-keeps c = keeps_the_last

pub returns-clause-opens : goal.returns-clause-opens
returns-clause-opens c = opens_exactly

pub returns-clause-row : goal.returns-clause-row
returns-clause-row c = all_are_in_row
