-- What the calls on a leased pass do.
use Rattle.std.specs.Prelude.{◌≡◌, ℕ, ◌<◌, ◌≤◌, ◌⊎◌, [], min, Result, Ok, Err}
use Rattle.std.specs.Global.{Global}
use Rattle.std_alloc.specs.declared.boxed.Box.{Box}
use Rattle.sched_time.specs.declared.numbers.TheConstants.{FAR}
use Rattle.sched_ticket_lease.specs.Spans.{weight}
use Rattle.sched_ticket_lease.specs.Requests.{since_then}
use Rattle.sched_ticket_lease.specs.Holders.{Holder, IsNew, Draws, DrawsNone, Takes, TakesNone, HandsBack, HandsNone}
use Rattle.sched_ticket_lease.specs.Holders.{Lends, CountsRequests, TellsRequests}
use Rattle.sched_ticket_lease.specs.declared.ticket.Ticket.{Ticket}
use Rattle.sched_ticket_lease.specs.declared.ticket.Grant.{Grant}
use Rattle.sched_ticket_lease.specs.declared.ticket.GrantFault.{GrantFault}
use Rattle.sched_ticket_lease.specs.declared.ticket.GrantFault.TheVariants as grant_fault
use Rattle.sched_ticket_lease.specs.declared.ticket.NotBack.{NotBack}
use Rattle.sched_ticket_lease.specs.declared.ticket.NotBack.TheVariants as not_back
use Rattle.sched_ticket_lease.specs.declared.ticket.NoTicket.{NoTicket as Reason}
use Rattle.sched_ticket_lease.specs.declared.ticket.NoTicket.TheVariants as no_ticket
use Rattle.sched_handle.specs.Held.{OtherKind}
use Rattle.sched_handle.specs.Status.{By}
use Rattle.sched_handle.specs.declared.held.Held.{Held}
use Rattle.sched_handle.specs.declared.held.Held.TheVariants.{Leased}
use Rattle.sched_handle.specs.declared.leases.Draw.{Draw}
use Rattle.sched_handle.specs.declared.leases.Draw.TheVariants.{Got, LeaseWanted, AskAt}
use Rattle.sched_handle.specs.declared.replies.Granted.{Granted}
use Rattle.sched_handle.specs.declared.replies.Standing.{Standing}
use Rattle.sched_handle.specs.declared.status.Status.{Status}
use Rattle.sched_handle.specs.declared.status.Status.TheVariants.{NoMemory, TooLarge, Backwards, HeldAlready, NotOut}
use Rattle.sched_handle.specs.declared.status.Status.TheVariants.{NoTicket}

-- a leased pass that holds nothing is made, or none for this reason
abbrev pub MakesLeased : ℕ → Result (Box Held Global) Status → Type 0
MakesLeased period (Ok b) = (h : Holder) × (b.value ≡ Leased h) × IsNew h × (h.requests.period ≡ period)
MakesLeased period (Err TooLarge) = FAR < period
MakesLeased period (Err NoMemory) = period ≤ FAR
MakesLeased period (Err _) = ⊥

-- a call on what a handle holds does this to its leased pass; of what is of another kind nothing changes
abbrev pub OnLeased : {A : Type 0} → (Holder → Result A Status → Holder → Type 0) → Held → Result A Status → Held
    → Type 0
OnLeased does (Leased h) r v = (k : Holder) × (v ≡ Leased k) × does h r k
OnLeased does u r v = OtherKind u r v

-- what is answered where there is no ticket for this reason
abbrev pub undrawn_of : Reason → Result Draw Status
undrawn_of no_ticket.LeaseWanted = Ok LeaseWanted
undrawn_of (no_ticket.AskAt m) = Ok (AskAt m)
undrawn_of no_ticket.NoMemory = Err NoMemory

-- a ticket is drawn, or there is none for this reason
abbrev pub DrawsLeased : ℕ → Holder → Result Draw Status → Holder → Type 0
DrawsLeased now h (Ok (Got t)) k = Draws now h t k
DrawsLeased now h (Ok LeaseWanted) k = DrawsNone now h no_ticket.LeaseWanted × (k ≡ h)
DrawsLeased now h (Ok (AskAt m)) k = DrawsNone now h (no_ticket.AskAt m) × (k ≡ h)
DrawsLeased now h (Err e) k = (e ≡ NoMemory) × DrawsNone now h no_ticket.NoMemory × (k ≡ h)

-- the status of a grant that is not taken, and of a ticket that is not taken back
abbrev pub of_grant : GrantFault → Status
of_grant grant_fault.TooLarge = TooLarge
of_grant grant_fault.Backwards = Backwards
of_grant grant_fault.HeldAlready = HeldAlready
of_grant grant_fault.NoMemory = NoMemory

abbrev pub of_back : NotBack → Status
of_back not_back.NotOut = NotOut
of_back not_back.NoMemory = NoMemory

-- what the store granted is taken, or not for this reason
abbrev pub TakesGrant : Grant → Holder → Result (Unit {0}) Status → Holder → Type 0
TakesGrant g h (Ok x) k = Takes h g k
TakesGrant g h (Err e) k = (k ≡ h) × By of_grant (TakesNone h g) e

abbrev pub LeavesAlone : ℕ → Holder → Result (Unit {0}) Status → Holder → Type 0
LeavesAlone until h r k = (r ≡ Ok tt) × (k ≡ record h { ask_at = until })

-- a ticket is taken back, or not for this reason
abbrev pub TakesBack : Ticket → Holder → Result (Unit {0}) Status → Holder → Type 0
TakesBack t h (Ok x) k = HandsBack h t k
TakesBack t h (Err e) k = (k ≡ h) × By of_back (HandsNone h t) e

abbrev pub CountsFor : ℕ → ℕ → Holder → Result (Unit {0}) Status → Holder → Type 0
CountsFor now n h (Ok x) k = CountsRequests now n h k
CountsFor now n h (Err e) k = (e ≡ NoMemory) × (k ≡ h)

abbrev pub TellsOf : ℕ → Holder → Result ℕ Status → Holder → Type 0
TellsOf since h (Ok n) k = TellsRequests since n h k
TellsOf since h (Err e) k = ⊥

abbrev pub grant_of : Granted → Grant
grant_of g = record { window = g.window; first = g.first; tickets = g.tickets; until = g.until }

-- a range is given up to another pass, or there is none
abbrev pub LendsTo : ℕ → Holder → Result Granted Status → Holder → Type 0
LendsTo most h (Ok g) k = Lends most h (grant_of g) k
LendsTo most h (Err e) k = (e ≡ NoTicket) × ((most ≡ 0) ⊎ (h.at_hand ≡ [])) × (k ≡ h)

-- what a leased pass has
abbrev pub standing_of : Holder → Standing
standing_of h = record {
  drawn = h.drawn;
  at_hand = min (weight (λ _. 1) h.at_hand) 18446744073709551615;
  untold = min (since_then 0 h.requests.slices) 18446744073709551615;
}

abbrev pub SeesLeased : Holder → Result Standing Status → Holder → Type 0
SeesLeased h (Ok s) k = (s ≡ standing_of h) × (k ≡ h)
SeesLeased h (Err e) k = ⊥
