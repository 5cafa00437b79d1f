-- Why a pass that is drawn by is not split.
use Rattle.std.specs.Prelude.{◌≡◌}
use Rattle.sched_ticket.specs.Calls.{SplitRefused}
use Rattle.sched_ticket.specs.declared.view.View.{View}
use Rattle.sched_ticket.specs.declared.fault.TicketFault.{TicketFault}
use Rattle.sched_ticket.specs.declared.fault.TicketFault.TheVariants.{LimitTooLarge, NoMemory, TooManyPasses, Fixed}
use Rattle.sched_ticket_quota.specs.declared.view.View.{View as QuotaView}
use Rattle.sched_ticket_quota.specs.declared.fault.QuotaFault.{QuotaFault}
use Rattle.sched_ticket_quota.specs.declared.fault.QuotaFault.TheVariants as quota

-- a pass of a budget is not split for this reason; where its budget counts passes, it may have noted so
abbrev pub SplitFails : View → View → TicketFault → Type 0
SplitFails v w TooManyPasses = SplitRefused v w
SplitFails v w NoMemory = w ≡ v
SplitFails v w LimitTooLarge = ⊥
SplitFails v w Fixed = ⊥

-- a pass of a quota is not split for this reason
abbrev pub QuotaSplitFails : QuotaView → QuotaFault → Type 0
QuotaSplitFails v quota.TooManyPasses = v.weight ≡ 1
QuotaSplitFails v quota.NoMemory = Unit {0}
QuotaSplitFails v _ = ⊥
