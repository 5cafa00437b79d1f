-- A quota that carries: a window draws, once, what the window before left of its share. Each law is the contract of a
-- function of the module `laws`.
use Rattle.std.specs.Prelude.{ℕ, Bool, ◌+◌, ◌*◌, ◌/◌, ◌≤◌, List}
use Rattle.sched_ticket.specs.Lists.{total}
use Rattle.sched_ticket_quota.specs.Windows.{count_late, count_drawn, before}
use Rattle.sched_ticket_quota.specs.Rule.{requests_in, WereInForce}
use Rattle.sched_ticket_quota.specs.Laws.{Always}
use Rattle.sched_ticket_quota.specs.Clocks.{over, AreMost}
use Rattle.sched_ticket_quota.specs.declared.view.Terms.{Terms}
use Rattle.sched_ticket_quota.specs.declared.view.View.{View}

-- how many tickets of a window that are out were drawn in the next, of its share
abbrev pub carried_from : Bool → List View → ℕ → ℕ
carried_from c views w = total (λ (v : View). count_late c w v.tickets) views

-- how many tickets that are out were drawn in a window: its own, and those carried to it
abbrev pub drawn_in : Bool → List View → ℕ → ℕ
drawn_in c views w = total (λ (v : View). count_drawn c w v.tickets) views

-- and how many that were drawn there were handed back
abbrev pub handed_back_in : Bool → List View → ℕ → ℕ
handed_back_in c views w = total (λ (v : View). count_drawn c w v.returned) views

-- A window leaves the next no more than the share of its requests, by the most generous terms that were in force. With
-- what it gave itself, that is no more than its reserve and its share, since what it leaves is of its own tickets
-- (`WindowsAreKept`).
abbrev pub SharesAreKept : Type 0
SharesAreKept = Always (λ k s kept. (w n : ℕ) →
    ((j : Terms) → WereInForce k s.views j → (j.share * requests_in s.views w) / 1000 ≤ n) →
    carried_from kept.carries s.views w ≤ n)

-- Over any run of windows the tickets that are out are at most a reserve for each, and the share of the requests of
-- these and, of a quota that carries, of the one before the first, by the greatest reserve and share that were in
-- force.
abbrev pub RunsAreKept : Type 0
RunsAreKept = Always (λ k s kept. (most : Terms) → AreMost k s.views most → (w count : ℕ) →
    over (drawn_in kept.carries s.views) w count
    ≤ count * most.reserve
    + (most.share * (before kept.carries (requests_in s.views) w + over (requests_in s.views) w count)) / 1000)
