-- What a refused call says.
use Rattle.std.specs.Prelude.{ℕ, List, codes}
use Rattle.sched_ticket.specs.declared.fault.TicketFault.{TicketFault}
use Rattle.sched_ticket.specs.declared.fault.TicketFault.TheVariants.{LimitTooLarge, NoMemory, TooManyPasses, Fixed}

-- the reason, in words
abbrev pub fault_text : TicketFault → List ℕ
fault_text LimitTooLarge = codes "the limit is more than 4294967296 tickets"
fault_text NoMemory = codes "no memory"
fault_text TooManyPasses = codes "the budget has no further pass"
fault_text Fixed = codes "the budget keeps its limit"
