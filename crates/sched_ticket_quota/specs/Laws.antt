-- What the rule says in the words of whoever uses a quota. Each law is the contract of a function of the module `laws`.
use Rattle.std.specs.Prelude.{◌≡◌, ℕ, ◌+◌, ◌-◌, ◌*◌, ◌/◌, ◌<◌, ◌≤◌, ◌%◌, []}
use mathlib.Core.Option.{some}
use lib.ListN.{get_elem?}
use Rattle.atomic_table.specs.Table.{State}
use Rattle.sched_ticket.specs.Lists.{total, times}
use Rattle.sched_ticket_quota.specs.Windows.{window_of, first_of, terms_of, room_of, back_in}
use Rattle.sched_ticket_quota.specs.Rule.{tickets_in, returned_in, requests_in, weights, openings, WereInForce}
use Rattle.sched_ticket_quota.specs.Rule.{drawn_of, asked_of, current_of, back_of, past_of, IsKept}
use Rattle.sched_ticket_quota.specs.Calls.{HasNoRoom}
use Rattle.sched_ticket_quota.specs.declared.view.Terms.{Terms}
use Rattle.sched_ticket_quota.specs.declared.view.View.{View}

-- of every quota, between any two atomic steps
abbrev pub Always : ((k : Terms) (s : State ℕ View) → IsKept k s → Type 0) → Type 0
Always P = (k : Terms) (s : State ℕ View) (kept : IsKept k s) → P k s kept

-- of every pass of every quota, alive or dropped
abbrev pub OfEachPass : ((k : Terms) (s : State ℕ View) → ℕ → View → Type 0) → Type 0
OfEachPass P = Always (λ k s kept. (by : ℕ) (v : View) → get_elem? s.views by ≡ some v → P k s by v)

-- no ticket stands twice, in one pass or in two, among those out and those handed back
abbrev pub TicketsStandOnce : Type 0
TicketsStandOnce = Always (λ k s kept. (x : ℕ) →
    total (λ (v : View). times x v.tickets + times x v.returned) s.views ≤ 1)

-- no request is counted twice
abbrev pub RequestsStandOnce : Type 0
RequestsStandOnce = Always (λ k s kept. (x : ℕ) → total (λ (v : View). times x v.requests) s.views ≤ 1)

-- in each window the tickets that are out, given and not handed back, never pass the reserve and the share of the
-- requests counted in it so far, by the most generous terms that were in force
abbrev pub WindowsAreKept : Type 0
WindowsAreKept = Always (λ k s kept. (w n : ℕ) →
    ((j : Terms) → WereInForce k s.views j → j.reserve + (j.share * requests_in s.views w) / 1000 ≤ n) →
    tickets_in s.views w ≤ n)

-- which are those that the quota was made with, where no pass has set any
abbrev pub UnchangedAreKept : Type 0
UnchangedAreKept = Always (λ k s kept.
    ((by : ℕ) (v : View) → get_elem? s.views by ≡ some v → v.changes ≡ []) → (w : ℕ) →
    tickets_in s.views w ≤ k.reserve + (k.share * requests_in s.views w) / 1000)

-- the terms that a draw reads, and those that a pass has read, were in force
abbrev pub TermsWereInForce : Type 0
TermsWereInForce = Always (λ k s kept. WereInForce k s.views (terms_of k (current_of s))
    × ((by : ℕ) (v : View) → get_elem? s.views by ≡ some v → 0 < v.weight →
    WereInForce k s.views (terms_of k v.current)))

-- nor 4294967296
abbrev pub WindowsAreSmall : Type 0
WindowsAreSmall = Always (λ k s kept. (w : ℕ) → tickets_in s.views w ≤ 4294967296)

-- the requests of the latest window are all that were counted in it
abbrev pub LatestIsCounted : Type 0
LatestIsCounted = Always (λ k s kept. asked_of s % 4294967296 ≤ requests_in s.views (window_of (asked_of s)))

-- where a pass has found no room, so many tickets were given in that window, or handed back since, as the terms allow
-- for the requests and for those handed back, as it read all three
abbrev pub RefusalsAreJust : Type 0
RefusalsAreJust = OfEachPass (λ k s by v. HasNoRoom k v →
    room_of v.carries (terms_of k v.current) v.seen v.back
    ≤ tickets_in s.views (window_of v.seen) + returned_in s.views (window_of v.seen))

-- what a pass has seen and found was there, and what it has noted still is: no request and no ticket that was counted
-- is lost
abbrev pub SightIsTrue : Type 0
SightIsTrue = OfEachPass (λ k s by v. (v.seen ≤ asked_of s) × (v.found ≤ drawn_of s)
    × (v.seen % 4294967296 ≤ requests_in s.views (window_of v.seen))
    × ((w : ℕ) → back_in v.back w ≤ returned_in s.views w)
    × (v.noted ≤ past_of s)
    × (v.past ≤ first_of (window_of v.past) + requests_in s.views (window_of v.past - 1)))

-- the latest window is the first, one that a pass opened, or follows a full one
abbrev pub WindowsWereOpened : Type 0
WindowsWereOpened = Always (λ k s kept. (kept.latest ≤ window_of (asked_of s))
    × (0 < kept.latest → 0 < openings s.views (first_of kept.latest))
    × ((w : ℕ) → kept.latest ≤ w → w < window_of (asked_of s) → 4294967296 ≤ requests_in s.views w))

-- the passes' parts are 2^62, however often they were split and joined
abbrev pub PartsAreKept : Type 0
PartsAreKept = Always (λ k s kept. weights s.views ≡ 4611686018427387904)

-- what stands for no part has nothing
abbrev pub SpentHasNothing : Type 0
SpentHasNothing = OfEachPass (λ k s by v. v.weight ≡ 0 →
    (v.tickets ≡ []) × (v.requests ≡ []) × (v.returned ≡ []))

-- no word comes to its end
abbrev pub WordsStaySmall : Type 0
WordsStaySmall = Always (λ k s kept. (asked_of s ≤ 17496587906427387904) × (drawn_of s ≤ 17496587910722355200)
    × (back_of s ≤ 17496587910722355200))
