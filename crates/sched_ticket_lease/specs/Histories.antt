-- What holds of holders of leases, over any list of calls. Each law is the contract of a function of the module `laws`.
use Rattle.std.specs.Prelude.{◌≡◌, ℕ, ◌+◌, ◌*◌, ◌<◌, ◌≤◌, ◌⊎◌, min, List, [], ◌∷◌, if◌then◌else◌, ◌==◌, nat_lt}
use Rattle.sched_ticket.specs.Lists.{total, Each, is}
use Rattle.sched_ticket_lease.specs.Leases.{allows}
use Rattle.sched_ticket_lease.specs.Laws.{Taken, AreTaken, told_in}
use Rattle.sched_ticket_lease.specs.Spans.{between}
use Rattle.sched_ticket_lease.specs.Requests.{Asked}
use Rattle.sched_ticket_lease.specs.Holders.{Holder, IsHolder, IsNew, Draws, Takes, HandsBack, Lends, CountsRequests}
use Rattle.sched_ticket_lease.specs.Holders.{TellsRequests}
use Rattle.sched_ticket_lease.specs.declared.lease.Grants.{Grants}
use Rattle.sched_ticket_lease.specs.declared.lease.Stored.{Stored}
use Rattle.sched_ticket_lease.specs.declared.ticket.Ticket.{Ticket}
use Rattle.sched_ticket_lease.specs.declared.ticket.Grant.{Grant}

-- a call that changed something of a holder, with its answer; one that is refused changes nothing
pub data Call : Type 0 where
  drew : ℕ → Ticket → Call
  took : Grant → Call
  handed_back : Ticket → Call
  lent : ℕ → Grant → Call
  counted : ℕ → ℕ → Call
  told : ℕ → ℕ → Call
  left_alone : ℕ → Call

abbrev pub Does : Call → Holder → Holder → Type 0
Does (drew now t) h k = Draws now h t k
Does (took g) h k = Takes h g k
Does (handed_back t) h k = HandsBack h t k
Does (lent most g) h k = Lends most h g k
Does (counted now n) h k = CountsRequests now n h k
Does (told since n) h k = TellsRequests since n h k
Does (left_alone m) h k = k ≡ record h { ask_at = m }

-- a call, and the holder after it
pub record Step : Type 0 where
  pub call : Call
  pub after : Holder

-- these calls are made of a holder, one after another
abbrev pub AreMade : Holder → List Step → Type 0
AreMade h [] = Unit {0}
AreMade h (s ∷ ss) = Does s.call h s.after × IsHolder s.after.at_hand s.after.out × AreMade s.after ss

-- all calls that were made of a holder since it was new
abbrev pub IsHistory : List Step → Type 0
IsHistory steps = (h : Holder) × IsNew h × AreMade h steps

-- what a number of this window weighs, and nothing in another
abbrev pub in_window : ℕ → ℕ → ℕ → ℕ
in_window w v n = if v == w then n else 0

abbrev pub range_in : (ℕ → ℕ) → ℕ → Grant → ℕ
range_in q w g = in_window w g.window (between q g.first (g.first + g.tickets))

abbrev pub ticket_in : (ℕ → ℕ) → ℕ → Ticket → ℕ
ticket_in q w t = in_window w t.window (q t.number)

-- what the numbers of this window weigh that a call drew, took, handed back and lent
abbrev pub drew_by : (ℕ → ℕ) → ℕ → Call → ℕ
drew_by q w (drew now t) = ticket_in q w t
drew_by q w _ = 0

abbrev pub took_by : (ℕ → ℕ) → ℕ → Call → ℕ
took_by q w (took g) = range_in q w g
took_by q w _ = 0

abbrev pub back_by : (ℕ → ℕ) → ℕ → Call → ℕ
back_by q w (handed_back t) = ticket_in q w t
back_by q w _ = 0

abbrev pub lent_by : (ℕ → ℕ) → ℕ → Call → ℕ
lent_by q w (lent most g) = range_in q w g
lent_by q w _ = 0

-- the same of all these calls
abbrev pub drew_in : (ℕ → ℕ) → ℕ → List Step → ℕ
drew_in q w steps = total (λ (s : Step). drew_by q w s.call) steps

abbrev pub took_in : (ℕ → ℕ) → ℕ → List Step → ℕ
took_in q w steps = total (λ (s : Step). took_by q w s.call) steps

abbrev pub back_in : (ℕ → ℕ) → ℕ → List Step → ℕ
back_in q w steps = total (λ (s : Step). back_by q w s.call) steps

abbrev pub lent_in : (ℕ → ℕ) → ℕ → List Step → ℕ
lent_in q w steps = total (λ (s : Step). lent_by q w s.call) steps

-- what the numbers of this window weigh that a store leased
abbrev pub leased_by : (ℕ → ℕ) → ℕ → Taken → ℕ
leased_by q w t = in_window w t.ask.window (between q t.lease.first (t.lease.first + t.lease.tickets))

-- what a holder drew and lent it was granted, or handed it back
abbrev pub DrawsWereGranted : Type 0
DrawsWereGranted = (steps : List Step) → IsHistory steps → (q : ℕ → ℕ) (w : ℕ) →
    drew_in q w steps + lent_in q w steps ≤ back_in q w steps + took_in q w steps

-- whatever a store answers, and how often: a holder takes each number of a window once, and once more for each time
-- that it lent it; so it draws it at most once more than it was handed back
abbrev pub NumbersAreTakenOnce : Type 0
NumbersAreTakenOnce = (steps : List Step) → IsHistory steps → (w n : ℕ) →
    took_in (is n) w steps ≤ 1 + lent_in (is n) w steps

abbrev pub NumbersAreOutOnce : Type 0
NumbersAreOutOnce = (steps : List Step) → IsHistory steps → (w n : ℕ) →
    drew_in (is n) w steps ≤ 1 + back_in (is n) w steps

-- each range that one of the holders took was leased by the store, or lent by one of them; either may be lost
abbrev pub WereLeased : List (List Step) → List Taken → Type 0
WereLeased all ts = (q : ℕ → ℕ) (w : ℕ) → total (took_in q w) all ≤ total (lent_in q w) all + total (leased_by q w) ts

-- of all holders of what a store keeps: each number of a window is drawn at most once more than it was handed back
abbrev pub SharedNumbersStandOnce : Type 0
SharedNumbersStandOnce = (all : List (List Step)) → Each IsHistory all → (s : Stored) (ts : List Taken)
    → AreTaken s ts →
    WereLeased all ts → (w n : ℕ) → total (drew_in (is n) w) all ≤ 1 + total (back_in (is n) w) all

-- and where all who ask in a window name the same terms, they draw in it no more tickets than it may give for the
-- requests that the store was told, and one for each that was handed back
abbrev pub SharedWindowsAreKept : Type 0
SharedWindowsAreKept = (all : List (List Step)) → Each IsHistory all → (s : Stored) (ts : List Taken) → s.asked ≡ 0 →
    AreTaken s ts → WereLeased all ts → (g : Grants) (w : ℕ)
    → Each (λ (t : Taken). t.ask.window ≡ w → t.ask.grants ≡ g) ts →
    total (drew_in (λ _. 1) w) all ≤ allows g (total (told_in w) ts) + total (back_in (λ _. 1) w) all

-- once a range was taken, none of its window is drawn after the moment that was said to end it
abbrev pub IsInTime : Grant → Call → Type 0
IsInTime g (drew now t) = t.window ≡ g.window → now < g.until
IsInTime g _ = Unit {0}

abbrev pub EndsBy : Call → List Step → Type 0
EndsBy (took g) later = Each (λ (s : Step). IsInTime g s.call) later
EndsBy _ later = Unit {0}

abbrev pub AllEnd : List Step → Type 0
AllEnd [] = Unit {0}
AllEnd (s ∷ later) = EndsBy s.call later × AllEnd later

abbrev pub NoneIsDrawnLate : Type 0
NoneIsDrawnLate = (steps : List Step) → IsHistory steps → AllEnd steps

-- the requests that are told for windows that began at a moment or later are at most those that were counted from that
-- moment on: none is told twice
abbrev pub counted_by : ℕ → Call → ℕ
counted_by since (counted now n) = if nat_lt now since then 0 else n
counted_by since _ = 0

abbrev pub told_by : ℕ → Call → ℕ
told_by since (told began n) = if nat_lt began since then 0 else n
told_by since _ = 0

abbrev pub RequestsAreToldOnce : Type 0
RequestsAreToldOnce = (steps : List Step) → IsHistory steps → (since : ℕ) →
    total (λ (s : Step). told_by since s.call) steps ≤ total (λ (s : Step). counted_by since s.call) steps

-- Requests are counted at this moment, in the window that began at `since` or before it. Where there are windows, the
-- end of one that the holder knows is a whole number of windows before the end of that one, or this end; and it is no
-- further ahead than a window is long.
abbrev pub IsTimely : ℕ → ℕ → Asked → Type 0
IsTimely since now a =
    ((a.period ≡ 0) × (since ≡ 0) × (now ≤ 4611686018427387903))
    ⊎ ((0 < a.period) × (now < since + a.period) × (a.border ≤ now + a.period)
    × ((k : ℕ) × (a.border + k * a.period ≡ since + a.period)))

-- a call of those that count requests, none of them before the one before it, and tell none
abbrev pub Goes : ℕ → ℕ → Asked → Call → Type 0
Goes since from a (counted now n) = (from ≤ now) × IsTimely since now a
Goes since from a (told began n) = ⊥
Goes since from a _ = Unit {0}

-- the moment of the last that counted any
abbrev pub latest : ℕ → Call → ℕ
latest from (counted now n) = now
latest from _ = from

abbrev pub AreCounted : ℕ → ℕ → Holder → List Step → Type 0
AreCounted since from h [] = Unit {0}
AreCounted since from h (s ∷ ss) =
    Goes since from h.requests s.call × AreCounted since (latest from s.call) s.after ss

-- the holder after these calls
abbrev pub left_by : Holder → List Step → Holder
left_by h [] = h
left_by h (s ∷ ss) = left_by s.after ss

-- A holder that had told all its requests, and counted others since, tells those that it counted in the present window,
-- each of them.
abbrev pub RequestsAreKept : Type 0
RequestsAreKept = (h : Holder) (steps : List Step) → h.requests.slices ≡ [] → AreMade h steps → (since : ℕ) →
    AreCounted since 0 h steps → (n : ℕ) (k : Holder) → TellsRequests since n (left_by h steps) k →
    n ≡ min (total (λ (s : Step). counted_by since s.call) steps) 18446744073709551615
