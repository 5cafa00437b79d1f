-- When a take may begin.
use Rattle.sched_pace.proofs.Takes as takes
use Rattle.sched_pace.proofs.laws.waits_are_short.Goals as goal

pub returns-clause-once : goal.returns-clause-once
returns-clause-once c = takes.is_granted_at_once

pub returns-clause-told : goal.returns-clause-told
returns-clause-told c = takes.is_granted_when_told

pub returns-clause-first : goal.returns-clause-first
returns-clause-first c = takes.start_is_the_first

pub returns-clause-short : goal.returns-clause-short
returns-clause-short c = takes.waits_are_short
