-- All holders together draw each number once, and no more in a window than it may give.
use Rattle.sched_ticket_lease.proofs.Shared.{shared_numbers_stand_once, shared_windows_are_kept}
use Rattle.sched_ticket_lease.proofs.laws.holders_keep_windows.Goals as goal

pub returns-clause-numbers : goal.returns-clause-numbers
returns-clause-numbers c = shared_numbers_stand_once

pub returns-clause-windows : goal.returns-clause-windows
returns-clause-windows c = shared_windows_are_kept
