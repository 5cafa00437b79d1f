-- A holder draws and lends what it was granted, and takes each number of a window once.
use Rattle.sched_ticket_lease.proofs.Granted.{draws_were_granted}
use Rattle.sched_ticket_lease.proofs.TakenOnce.{numbers_are_taken_once, numbers_are_out_once}
use Rattle.sched_ticket_lease.proofs.laws.holders_draw_once.Goals as goal

pub returns-clause-granted : goal.returns-clause-granted
returns-clause-granted c = draws_were_granted

pub returns-clause-taken : goal.returns-clause-taken
returns-clause-taken c = numbers_are_taken_once

pub returns-clause-out : goal.returns-clause-out
returns-clause-out c = numbers_are_out_once
