-- What each kind of atomic step tells the pass that makes it: of the seat before, the number found and the seat after.
use Rattle.std.specs.Prelude.{◌≡◌, ◌≢◌, ℕ, Bool, ◌+◌, ◌<◌, ◌≤◌, length, max}
use Rattle.atomic_table.specs.Table.{Me, Step}
use Rattle.sched_ticket.specs.Lists.{Each, times}
use Rattle.sched_ticket.specs.Parts.{all_parts}
use Rattle.sched_ticket_quota.specs.Windows.{window_of, first_of, own_numbers}
use Rattle.sched_ticket_quota.specs.Whole.{IsWhole}
use Rattle.sched_ticket_quota.specs.View.{with_reading, with_glance, with_change, with_opening, with_requests}
use Rattle.sched_ticket_quota.specs.View.{with_found, with_ticket, with_loss, next_ticket}
use Rattle.sched_ticket_quota.specs.View.{with_recall, with_review, with_note, with_asking, with_setback, with_return}
use Rattle.sched_ticket_quota.specs.declared.view.View.{View}

-- a seat's view, and the slots that it holds, of which a quota has none
abbrev pub Sat : Type 0
Sat = Me ℕ View

abbrev pub Then : Type 1
Then = Step ℕ → Sat → ℕ → Sat → Type 0

-- the seat has this view now, and all else as before
abbrev pub Sees : Sat → Sat → View → Type 0
Sees m n v = n ≡ (v, m.1)

-- the draws that a pass has found are of no window past that of these requests
abbrev pub IsNoLater : Bool → ℕ → ℕ → Type 0
IsNoLater c found q = found ≤ first_of (window_of q) + own_numbers c

-- the requests never fall, and stay 2^32 below the end of their word
abbrev pub Rises : View → ℕ → Type 0
Rises v q = (v.seen ≤ q) × (q ≤ 17496587906427387904)

abbrev pub reads : Then
reads s m q n = Rises m.0 q × IsNoLater m.0.carries m.0.found q × Sees m n (with_reading m.0 q)

abbrev pub opens : Then
opens s m q n = Rises m.0 q × Sees m n (with_opening m.0 s.first (max q s.first))

-- the terms are read
abbrev pub glances : Then
glances s m x n = Sees m n (with_glance m.0 x)

-- the terms become these
abbrev pub changes : Then
changes s m x n = Sees m n (with_change m.0 x)

-- as many requests are counted as the step adds
abbrev pub counts : Then
counts s m q n = (m.0.seen ≤ q) × (q + s.first ≤ 17496587906427387904) × Sees m n (with_requests m.0 q s.first)

-- a look at the draws begins a draw, which has lost no race yet
abbrev pub finds : Then
finds s m d n = (m.0.found ≤ d) × Sees m n (with_found m.0 d)

-- the number comes after all tickets of the pass
abbrev pub IsLater : View → ℕ → Type 0
IsLater v t = Each (λ x. x < t) v.tickets × (length v.tickets ≤ t) × (t < 17496587910722355200)

-- A race is lost where another draw came since the pass looked: where the word is past the one that it found. A try
-- that finds the word as the pass knew it, and does not meet what it expects, is none.
abbrev pub wins : Then
wins s m d n =
    (d ≡ s.first → IsLater m.0 (next_ticket m.0) × Sees m n (with_ticket m.0 (next_ticket m.0)))
    × (d ≢ s.first → (m.0.found ≤ d) × (m.0.found < d → Sees m n (with_loss m.0 d)) × (d ≡ m.0.found → n ≡ m))

-- the number of tickets that were handed back never falls
abbrev pub recalls : Then
recalls s m r n = (m.0.back ≤ r) × Sees m n (with_recall m.0 r)

-- how many requests the window before had is read: never less than the pass noted
abbrev pub reviews : Then
reviews s m p n = (m.0.noted ≤ p) × Sees m n (with_review m.0 p)

-- it is noted for the window that is opened next
abbrev pub notes : Then
notes s m p n = Sees m n (with_note m.0 s.first)

-- such a look to hand a ticket back begins that, which has lost no race yet
abbrev pub asks : Then
asks s m r n = (m.0.back ≤ r) × Sees m n (with_asking m.0 r)

-- the latest ticket is handed back, or a race was lost with another that was
abbrev pub returns : Then
returns s m r n =
    (r ≡ s.first → Sees m n (with_return m.0 s.second))
    × (r ≢ s.first → (m.0.back ≤ r) × (m.0.back < r → Sees m n (with_setback m.0 r)) × (r ≡ m.0.back → n ≡ m))

-- the latest ticket is given up, of a window that is over
abbrev pub lapses : Then
lapses s m r n = (m.0.back ≤ r) × Sees m n (with_return m.0 r)

-- what holds of a pass's tickets and parts, whatever was joined into it
pub record IsSound (v : View) : Type 0 where
  pub once : (x : ℕ) → times x v.tickets ≤ 1
  pub few_tickets : length v.tickets ≤ 17496587910722355200
  pub few_parts : v.weight ≤ 4611686018427387904

-- a pass learns what holds of its tickets, and where it has all parts that it is the whole
abbrev pub learns : Then
learns s m found n = (n ≡ m) × IsSound m.0 × (m.0.weight ≡ all_parts → IsWhole m.0.terms m.0)
