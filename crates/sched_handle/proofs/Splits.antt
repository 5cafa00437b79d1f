-- Where there is no memory for a pass, none is split off.
use Rattle.std.proofs.Common.{refl}
use Rattle.sched_ticket.specs.declared.fault.TicketFault.TheVariants as ticket
use Rattle.sched_ticket_quota.specs.declared.fault.QuotaFault.TheVariants as quota
use Rattle.sched_ticket_draws.specs.declared.drawing.Drawing.{Drawing}
use Rattle.sched_ticket_draws.specs.declared.drawing.Drawing.TheVariants.{Budget, Quota, Unlimited}
use Rattle.sched_handle.specs.Drawing.{NoSplit}
use Rattle.sched_handle.specs.declared.status.Status.TheVariants.{NoMemory}

pub no_room : (d : Drawing) → NoSplit d NoMemory d
no_room (Budget s) = (s, refl, refl, (ticket.NoMemory, refl, refl))
no_room (Quota s) = (refl, (quota.NoMemory, refl, tt))
no_room (Unlimited n) = (refl, refl)
