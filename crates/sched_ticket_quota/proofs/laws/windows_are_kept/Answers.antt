-- The tickets of a window never pass the reserve and the share of the requests counted in it.
use Rattle.sched_ticket_quota.proofs.Views.{windows_are_kept, unchanged_are_kept, windows_are_small, latest_is_counted}
use Rattle.sched_ticket_quota.proofs.laws.windows_are_kept.Goals as goal

pub returns-clause-kept : goal.returns-clause-kept
returns-clause-kept c = windows_are_kept

pub returns-clause-small : goal.returns-clause-small
returns-clause-small c = windows_are_small

pub returns-clause-counted : goal.returns-clause-counted
returns-clause-counted c = latest_is_counted

pub returns-clause-unchanged : goal.returns-clause-unchanged
returns-clause-unchanged c = unchanged_are_kept
