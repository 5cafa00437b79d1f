-- What the calls on leased passes write.
use Rattle.std.specs.Prelude.{◌≡◌, ℕ, Option, Result, Ok, Err}
use Rattle.sched_ticket_lease.specs.Holders.{Holder}
use Rattle.sched_ticket_lease.specs.declared.ticket.Ticket.{Ticket}
use Rattle.sched_handle.specs.Leases.{OnLeased}
use Rattle.sched_handle.specs.Status.{code_of}
use Rattle.sched_handle.specs.declared.held.Held.{Held}
use Rattle.sched_handle.specs.declared.leases.Draw.{Draw}
use Rattle.sched_handle.specs.declared.leases.Draw.TheVariants.{Got, LeaseWanted, AskAt}
use Rattle.sched_handle.specs.declared.replies.Standing.{Standing}
use Rattle.sched_handle.specs.declared.status.Status.{Status}
use Rattle.sched_handle.specs.declared.status.Status.TheVariants as status
use Rattle.hikebox_c.specs.Calls.{OnHeld}

-- this is done with the leased pass that a handle holds, and told; an empty handle, or one of another kind, is refused
abbrev pub OnHolder : {A : Type 0} → (Holder → Result A Status → Holder → Type 0) → Option Held → Option Held →
    (Result A Status → Type 0) → Type 0
OnHolder does u w tells = OnHeld (OnLeased does) u w tells

-- a ticket stands in its place, or the moment from which on the store may be asked; nothing else is written
abbrev pub TellsDraw : ℕ → Ticket → Ticket → ℕ → ℕ → Result Draw Status → Type 0
TellsDraw code t u a b (Ok (Got x)) = (code ≡ 0) × (u ≡ x) × (b ≡ a)
TellsDraw code t u a b (Ok LeaseWanted) = (code ≡ code_of status.LeaseWanted) × (u ≡ t) × (b ≡ a)
TellsDraw code t u a b (Ok (AskAt m)) = (code ≡ code_of status.NoTicket) × (u ≡ t) × (b ≡ m)
TellsDraw code t u a b (Err s) = (code ≡ code_of s) × (u ≡ t) × (b ≡ a)

-- three numbers stand in their places
abbrev pub TellsStanding : ℕ → ℕ → ℕ → ℕ → ℕ → ℕ → ℕ → Result Standing Status → Type 0
TellsStanding code a b c d e f (Ok s) = (code ≡ 0) × (b ≡ s.drawn) × (d ≡ s.at_hand) × (f ≡ s.untold)
TellsStanding code a b c d e f (Err s) = (code ≡ code_of s) × (b ≡ a) × (d ≡ c) × (f ≡ e)
