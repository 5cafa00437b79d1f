-- A pass is refused only where its window has given what its terms allow, as it read them.
use Rattle.sched_ticket_quota.proofs.Views.{refusals_are_just, terms_were_in_force, sight_is_true}
use Rattle.sched_ticket_quota.proofs.laws.refusals_are_just.Goals as goal

pub returns-clause-refusals : goal.returns-clause-refusals
returns-clause-refusals c = refusals_are_just

pub returns-clause-sight : goal.returns-clause-sight
returns-clause-sight c = sight_is_true

pub returns-clause-terms : goal.returns-clause-terms
returns-clause-terms c = terms_were_in_force
