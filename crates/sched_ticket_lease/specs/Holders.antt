-- What contracts see of a leased pass, and what each call does to it.
use Rattle.std.specs.Prelude.{◌≡◌, ◌≢◌, ℕ, ◌+◌, ◌-◌, ◌≤◌, ◌<◌, ◌⊎◌, min, max, List, [], ◌∷◌, ◌++◌, length}
use Rattle.sched_ticket.specs.Lists.{is}
use Rattle.sched_ticket_lease.specs.Spans.{between, span_weight, weight, HasNone, HasSome}
use Rattle.sched_ticket_lease.specs.Requests.{Asked, Counts, Tells}
use Rattle.sched_ticket_lease.specs.declared.span.Span.{Span}
use Rattle.sched_ticket_lease.specs.declared.ticket.Ticket.{Ticket}
use Rattle.sched_ticket_lease.specs.declared.ticket.Grant.{Grant}
use Rattle.sched_ticket_lease.specs.declared.ticket.NoTicket.{NoTicket}
use Rattle.sched_ticket_lease.specs.declared.ticket.NoTicket.TheVariants.{LeaseWanted, AskAt, NoMemory}
use Rattle.sched_ticket_lease.specs.declared.ticket.GrantFault.{GrantFault}
use Rattle.sched_ticket_lease.specs.declared.ticket.GrantFault.TheVariants as grant_fault
use Rattle.sched_ticket_lease.specs.declared.ticket.NotBack.{NotBack}
use Rattle.sched_ticket_lease.specs.declared.ticket.NotBack.TheVariants as not_back

-- A holder has numbers of one window: those that it may draw until the window ends, and those that are out, which were
-- drawn and may be handed back. Those below the floor that it has not are forgotten.
pub record Holder : Type 0 where
  pub window : ℕ
  pub until : ℕ
  pub ask_at : ℕ
  pub at_hand : List Span
  pub out : List Span
  pub floor : ℕ
  pub drawn : ℕ
  pub requests : Asked

-- each number is held at most once, at hand or out, and 1024 spans are out at most
pub record IsHolder (at_hand out : List Span) : Type 0 where
  pub once : (n : ℕ) → weight (is n) at_hand + weight (is n) out ≤ 1
  pub few : length out ≤ 1024

-- a holder that has none, and may ask for a lease
pub record IsNew (h : Holder) : Type 0 where
  pub window : h.window ≡ 0
  pub until : h.until ≡ 4611686018427387903
  pub ask_at : h.ask_at ≡ 0
  pub at_hand : h.at_hand ≡ []
  pub out : h.out ≡ []
  pub floor : h.floor ≡ 0
  pub drawn : h.drawn ≡ 0
  pub slices : h.requests.slices ≡ []

-- what is out weighs so much, and nothing is forgotten; or it was too many spans, and the first of them is forgotten:
-- no range that begins below its end is taken any more
abbrev pub Remembers : ((ℕ → ℕ) → ℕ) → ℕ → List Span → ℕ → Type 0
Remembers weighs floor out after =
    (((q : ℕ → ℕ) → weight q out ≡ weighs q) × (after ≡ floor))
    ⊎ ((s : Span) × ((q : ℕ → ℕ) → weighs q ≡ weight q out + span_weight q s) × (after ≡ max floor s.end)
    × (length out ≡ 1024))

-- a ticket of the holder's window is drawn before the window ends: a number that was at hand is out
pub record Draws (now : ℕ) (h : Holder) (t : Ticket) (k : Holder) : Type 0 where
  pub in_window : t.window ≡ h.window
  pub in_time : now < h.until
  pub at_hand : (q : ℕ → ℕ) → weight q h.at_hand ≡ q t.number + weight q k.at_hand
  pub out : Remembers (λ q. weight q h.out + q t.number) h.floor k.out k.floor
  pub drawn : k.drawn ≡ min (h.drawn + 1) 18446744073709551615
  pub window : k.window ≡ h.window
  pub until : k.until ≡ h.until
  pub ask_at : k.ask_at ≡ h.ask_at
  pub requests : k.requests ≡ h.requests

-- none is drawn for this reason: none is at hand, or the window is over, and the store may be asked, or only later
abbrev pub HasNothing : ℕ → Holder → Type 0
HasNothing now h = (h.at_hand ≡ []) ⊎ (h.until ≤ now)

abbrev pub DrawsNone : ℕ → Holder → NoTicket → Type 0
DrawsNone now h LeaseWanted = HasNothing now h × (h.ask_at ≤ now)
DrawsNone now h (AskAt m) = HasNothing now h × (m ≡ h.ask_at) × (now < m)
DrawsNone now h NoMemory = now < h.until

-- a holder has, and had, none of the numbers from a up to b
pub record IsFree (h : Holder) (a b : ℕ) : Type 0 where
  pub above : a < b → h.floor ≤ a
  pub at_hand : HasNone h.at_hand a b
  pub out : HasNone h.out a b

-- a holder has one of the numbers from a up to b, or they begin below the end of those that it forgot
abbrev pub IsHeld : Holder → ℕ → ℕ → Type 0
IsHeld h a b = (a < b) × ((a < h.floor) ⊎ HasSome h.at_hand a b ⊎ HasSome h.out a b)

-- The numbers from a up to b, of the holder's window that ends then, come to what is at hand: none of them was held,
-- nor is below the floor.
pub record Adds (h : Holder) (a b until : ℕ) (at_hand out : List Span) (floor ends : ℕ) : Type 0 where
  pub at_hand_is : (q : ℕ → ℕ) → weight q at_hand ≡ weight q h.at_hand + between q a b
  pub out_is : out ≡ h.out
  pub floor_is : floor ≡ h.floor
  pub ends_is : ends ≡ min h.until until
  pub free : IsFree h a b

-- a holder comes to a later window that ends then, of which it has the numbers from a up to b alone
pub record Turns (h : Holder) (window a b until : ℕ) (at_hand out : List Span) (floor ends : ℕ) : Type 0 where
  pub later : h.window < window
  pub at_hand_is : (q : ℕ → ℕ) → weight q at_hand ≡ between q a b
  pub out_is : out ≡ []
  pub floor_is : floor ≡ 0
  pub ends_is : ends ≡ until

-- the numbers from a up to b of this window are held
pub record Holds (h : Holder) (window a b until : ℕ) (k : Holder) : Type 0 where
  pub held : ((window ≡ h.window) × Adds h a b until k.at_hand k.out k.floor k.until)
      ⊎ Turns h window a b until k.at_hand k.out k.floor k.until
  pub window_is : k.window ≡ window
  pub ask_at : k.ask_at ≡ h.ask_at
  pub drawn : k.drawn ≡ h.drawn
  pub requests : k.requests ≡ h.requests

-- or they are not, for this reason: some were held, or there is no memory
abbrev pub HoldsNone : Holder → ℕ → ℕ → ℕ → GrantFault → Type 0
HoldsNone h window a b grant_fault.HeldAlready = (window ≡ h.window) × IsHeld h a b
HoldsNone h window a b grant_fault.NoMemory = Unit {0}
HoldsNone h window a b _ = ⊥

abbrev pub AddsGrant : Holder → Grant → Holder → Type 0
AddsGrant h g k =
    (g.window ≡ h.window) × Adds h g.first (g.first + g.tickets) g.until k.at_hand k.out k.floor k.until

abbrev pub TurnsTo : Holder → Grant → Holder → Type 0
TurnsTo h g k = Turns h g.window g.first (g.first + g.tickets) g.until k.at_hand k.out k.floor k.until

-- what a store granted is taken
pub record Takes (h : Holder) (g : Grant) (k : Holder) : Type 0 where
  pub fits : g.first + g.tickets < 18446744073709551616
  pub held : AddsGrant h g k ⊎ TurnsTo h g k
  pub window : k.window ≡ g.window
  pub ask_when_used_up : 0 < g.tickets → k.ask_at ≡ 0
  pub ask_when_over : g.tickets ≡ 0 → k.ask_at ≡ g.until
  pub drawn : k.drawn ≡ h.drawn
  pub slices : k.requests.slices ≡ h.requests.slices
  pub period : k.requests.period ≡ h.requests.period
  pub border : k.requests.border ≡ g.until

-- it is not taken for this reason
abbrev pub TakesNone : Holder → Grant → GrantFault → Type 0
TakesNone h g grant_fault.TooLarge = 18446744073709551616 ≤ g.first + g.tickets
TakesNone h g grant_fault.Backwards = g.window < h.window
TakesNone h g grant_fault.HeldAlready = (g.window ≡ h.window) × IsHeld h g.first (g.first + g.tickets)
TakesNone h g grant_fault.NoMemory = h.window ≤ g.window

-- a ticket that was out is at hand, and out no longer
pub record HandsBack (h : Holder) (t : Ticket) (k : Holder) : Type 0 where
  pub in_window : t.window ≡ h.window
  pub at_hand : (q : ℕ → ℕ) → weight q k.at_hand ≡ weight q h.at_hand + q t.number
  pub was_out : 0 < weight (is t.number) h.out
  pub out : (mid : List Span) × ((q : ℕ → ℕ) → weight q h.out ≡ q t.number + weight q mid)
      × Remembers (λ q. weight q mid) h.floor k.out k.floor
  pub drawn : k.drawn ≡ h.drawn - 1
  pub window : k.window ≡ h.window
  pub until : k.until ≡ h.until
  pub ask_at : k.ask_at ≡ h.ask_at
  pub requests : k.requests ≡ h.requests

-- it is not handed back for this reason: it is not out
abbrev pub HandsNone : Holder → Ticket → NotBack → Type 0
HandsNone h t not_back.NotOut = (t.window ≢ h.window) ⊎ (weight (is t.number) h.out ≡ 0)
HandsNone h t not_back.NoMemory = t.window ≡ h.window

-- A range is given up to another holder: as many tickets as are asked for, or all of a span.
pub record Lends (most : ℕ) (h : Holder) (g : Grant) (k : Holder) : Type 0 where
  pub in_window : g.window ≡ h.window
  pub ends : g.until ≡ h.until
  pub some : 0 < g.tickets
  pub front : List Span
  pub last : Span
  pub span : h.at_hand ≡ front ++ last ∷ []
  pub first : g.first ≡ last.first
  pub many : g.tickets ≡ min most (last.end - last.first)
  pub at_hand : (q : ℕ → ℕ) → weight q h.at_hand ≡ weight q k.at_hand + between q g.first (g.first + g.tickets)
  pub same : k ≡ record h { at_hand = k.at_hand }

-- requests are counted, or told, and nothing else changes
pub record CountsRequests (now n : ℕ) (h k : Holder) : Type 0 where
  pub counts : Counts now n h.requests k.requests
  pub same : k ≡ record h { requests = k.requests }

pub record TellsRequests (since n : ℕ) (h k : Holder) : Type 0 where
  pub tells : Tells since n h.requests k.requests
  pub same : k ≡ record h { requests = k.requests }
