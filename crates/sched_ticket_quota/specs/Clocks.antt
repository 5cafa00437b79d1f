-- Windows and clocks: which window a call opens, draws and counts in, when it ends, and how many tickets there are
-- between two moments, however long nobody called. Each law is the contract of a function of the module `laws`.
use Rattle.std.specs.Prelude.{◌≡◌, ℕ, ◌+◌, ◌-◌, ◌*◌, ◌/◌, ◌<◌, ◌≤◌, ◌⊎◌, List, ◌∷◌, ◌++◌}
use Rattle.atomic_table.specs.Table.{State}
use Rattle.sched_ticket.specs.Lists.{below}
use Rattle.sched_ticket_quota.specs.Windows.{window_of, first_of, window_at, end_of, drawn_at}
use Rattle.sched_ticket_quota.specs.View.{numbers}
use Rattle.sched_ticket_quota.specs.Rule.{tickets_in, requests_in, begins, WereInForce, IsKept}
use Rattle.sched_ticket_quota.specs.Held.{Name, AreTerms}
use Rattle.sched_ticket_quota.specs.Calls.{DepositedOf, Drew, DrawRefused, Told}
use Rattle.sched_ticket_quota.specs.declared.view.Terms.{Terms}
use Rattle.sched_ticket_quota.specs.declared.view.View.{View}
use Rattle.sched_ticket_quota.specs.declared.fault.Refusal.{Refusal}
use Rattle.sched_ticket_quota.specs.declared.pass.Usage.{Usage}

-- what any call at this moment does to a pass: a deposit, a draw that was granted or refused, or a look
abbrev pub Called : Name → ℕ → View → View → Type 0
Called b now v w =
    ((n : ℕ) × DepositedOf b now n v w)
    ⊎ (((t : ℕ) × Drew b now v t w)
    ⊎ (((why : Refusal) × DrawRefused b now v why w) ⊎ ((told : Usage) × Told b now v w told)))

-- a call opens no window, or one, and that is its own moment's
abbrev pub OpensItsOwn : Type 0
OpensItsOwn = (b : Name) (now : ℕ) (v w : View) → Called b now v w →
    (w.opened ≡ v.opened) ⊎ (w.opened ≡ first_of (window_at b.terms b.start now) ∷ v.opened)

-- a ticket is drawn in no window before that of its draw's moment, and of a quota that does not carry it is of none
abbrev pub DrawsNoEarlier : Type 0
DrawsNoEarlier = (b : Name) (now : ℕ) (v : View) (t : ℕ) (w : View) → v.carries ≡ b.carries → Drew b now v t w →
    window_at b.terms b.start now ≤ drawn_at b.carries t

-- nor is a request of one before that of its deposit's moment
abbrev pub CountsNoEarlier : Type 0
CountsNoEarlier = (b : Name) (now n : ℕ) (v w : View) → DepositedOf b now n v w →
    (w.requests ≡ v.requests)
    ⊎ ((q : ℕ) × (w.requests ≡ numbers q n ++ v.requests) × (window_at b.terms b.start now ≤ window_of q))

-- a moment is in no window later than one that has not ended by then, and in a later one than one that has
abbrev pub WindowsEnd : Type 0
WindowsEnd = (b : Name) (w now : ℕ) → AreTerms b.terms →
    (now < end_of b.terms b.start w → window_at b.terms b.start now ≤ w)
    × (end_of b.terms b.start w < 4611686018427387903 → end_of b.terms b.start w ≤ now →
    w < window_at b.terms b.start now)

-- a moment's window ends within a period, but for the last
abbrev pub EndsWithinAPeriod : Type 0
EndsWithinAPeriod = (b : Name) (now : ℕ) → AreTerms b.terms → b.start * b.terms.period ≤ now →
    window_at b.terms b.start now < 2999999999 →
    end_of b.terms b.start (window_at b.terms b.start now) ≤ now + b.terms.period

-- f of so many windows from this one on, added up
abbrev pub over : (ℕ → ℕ) → ℕ → ℕ → ℕ
over f w count = below (λ i. f (w + i)) count

-- no terms in force ever had a greater reserve or share than these: of a quota whose terms no pass has set, those that
-- it was made with
abbrev pub AreMost : Terms → List View → Terms → Type 0
AreMost k views most =
    (j : Terms) → WereInForce k views j → (j.reserve ≤ most.reserve) × (j.share ≤ most.share)

-- However many windows are counted from that of a moment on, their tickets are at most two reserves, one for each
-- period that lies between this moment and another, one for each call that opened a window past that of the other
-- moment, one for each 4294967296 requests of one window, and the share of their requests, by the greatest reserve and
-- share that were in force.
abbrev pub ClocksAreBounded : Type 0
ClocksAreBounded = (b : Name) (s : State ℕ View) → AreTerms b.terms → IsKept b.terms s →
    (most : Terms) → AreMost b.terms s.views most → (from to count ahead : ℕ) → from ≤ to →
    over (begins s.views) (window_at b.terms b.start to + 1) count ≤ ahead →
    over (tickets_in s.views) (window_at b.terms b.start from) count
    ≤ ((to - from) / b.terms.period + 2 + ahead) * most.reserve
    + (most.share * over (requests_in s.views) (window_at b.terms b.start from) count) / 1000
