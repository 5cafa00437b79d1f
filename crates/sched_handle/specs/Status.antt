-- The status of each fault, and the numbers by which C knows the statuses; 0 is that of a call that is done.
use Rattle.std.specs.Prelude.{◌≡◌, ℕ, Result, Ok, Err}
use Rattle.sched_plan_json.specs.declared.texts.TextFault.{TextFault}
use Rattle.sched_plan_json.specs.declared.texts.TextFault.TheVariants as text
use Rattle.sched_ticket.specs.declared.fault.TicketFault.{TicketFault}
use Rattle.sched_ticket.specs.declared.fault.TicketFault.TheVariants as ticket
use Rattle.sched_ticket_quota.specs.declared.fault.QuotaFault.{QuotaFault}
use Rattle.sched_ticket_quota.specs.declared.fault.QuotaFault.TheVariants as quota
use Rattle.sched_ticket_quota.specs.declared.fault.Refusal.{Refusal}
use Rattle.sched_ticket_quota.specs.declared.fault.Refusal.TheVariants as refusal
use Rattle.sched_ticket_quota.specs.declared.fault.NotBack.{NotBack}
use Rattle.sched_ticket_quota.specs.declared.fault.NotBack.TheVariants as not_back
use Rattle.sched_handle.specs.declared.status.Status.{Status}
use Rattle.sched_handle.specs.declared.status.Status.TheVariants as status

abbrev pub code_of : Status → ℕ
code_of status.Empty = 1
code_of status.WrongKind = 2
code_of status.Full = 3
code_of status.NoMemory = 4
code_of status.TooLarge = 5
code_of status.NoRoom = 6
code_of status.WrongSize = 7
code_of status.NotJson = 10
code_of status.NotAPolicy = 11
code_of status.OutOfRange = 12
code_of status.TooDeep = 13
code_of status.TooMany = 14
code_of status.Backwards = 20
code_of status.LimitTooLarge = 30
code_of status.Fixed = 31
code_of status.NoTicket = 32
code_of status.TooManyPasses = 33
code_of status.PassesOut = 34
code_of status.ReserveTooLarge = 35
code_of status.ShareTooLarge = 36
code_of status.PeriodTooShort = 37
code_of status.RacesLost = 38
code_of status.NoTerms = 39
code_of status.NoSuchReport = 40
code_of status.NoRun = 41
code_of status.DrawsElsewhere = 42
code_of status.NothingToHandBack = 43
code_of status.TooManyRequests = 44
code_of status.LeaseWanted = 50
code_of status.NotOut = 51
code_of status.HeldAlready = 52
code_of status.TooSoon = 70

-- what a call that answers nothing else returns
abbrev pub told : {A : Type 0} → Result A Status → ℕ
told (Ok x) = 0
told (Err s) = code_of s

-- the status of each fault of a budget, of a quota, of a draw of it, of a ticket handed back and of a text
abbrev pub of_ticket : TicketFault → Status
of_ticket ticket.LimitTooLarge = status.LimitTooLarge
of_ticket ticket.NoMemory = status.NoMemory
of_ticket ticket.TooManyPasses = status.TooManyPasses
of_ticket ticket.Fixed = status.Fixed

abbrev pub of_quota : QuotaFault → Status
of_quota quota.ReserveTooLarge = status.ReserveTooLarge
of_quota quota.ShareTooLarge = status.ShareTooLarge
of_quota quota.PeriodTooShort = status.PeriodTooShort
of_quota quota.NoMemory = status.NoMemory
of_quota quota.TooManyPasses = status.TooManyPasses

abbrev pub of_refusal : Refusal → Status
of_refusal (refusal.WindowOut next) = status.NoTicket
of_refusal refusal.RacesLost = status.RacesLost

abbrev pub of_not_back : NotBack → Status
of_not_back not_back.NoTicket = status.NothingToHandBack
of_not_back not_back.RacesLost = status.RacesLost

abbrev pub of_text : TextFault → Status
of_text (text.NotJson line column) = status.NotJson
of_text text.NotAPlan = status.NotAPolicy
of_text text.OutOfRange = status.OutOfRange
of_text text.TooDeep = status.TooDeep
of_text text.TooMany = status.TooMany
of_text text.NoMemory = status.NoMemory

-- the status is that of a fault, of which this is true
abbrev pub By : {F : Type 0} → (F → Status) → (F → Type 0) → Status → Type 0
By {F} of why s = (fault : F) × (s ≡ of fault) × why fault
