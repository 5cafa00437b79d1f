-- The tickets that retries draw, and what bounds them.
use Rattle.std.specs.Prelude.{◌≡◌, ℕ, ◌+◌, ◌*◌, ◌/◌, ◌<◌, ◌≤◌, Bool, true, nat_lt, if◌then◌else◌, List, [], ◌∷◌, sum_by}
use Rattle.sched_ticket_quota.specs.declared.view.Terms.{Terms}
use Rattle.sched_ticket_quota.specs.Windows.{allowed}
use Rattle.sched_storm_limit.specs.Ranges.{has_draws}
use Rattle.sched_storm_limit.specs.declared.draws.Draws.{Draws}
use Rattle.sched_storm_limit.specs.declared.draws.Draws.TheVariants.{Nothing, Budget, Quota, Limited}
use Rattle.sched_storm.specs.declared.tickets.Drawn.{Drawn}

-- no request, and no ticket
abbrev pub none_drawn : Drawn
none_drawn = record { window = 0; asked_before = 0; given_before = 0; asked = 0; given = 0 }

-- all requests that were counted, and all tickets that were given
abbrev pub asked_of : Drawn → ℕ
asked_of d = d.asked_before + d.asked

abbrev pub given_of : Drawn → ℕ
given_of d = d.given_before + d.given

-- a later window of a quota begins with nothing
abbrev pub turned : ℕ → Drawn → Drawn
turned w d = if nat_lt d.window w
    then record { window = w; asked_before = asked_of d; given_before = given_of d; asked = 0; given = 0 }
    else d

-- each call of a quota is of its own moment's window
abbrev pub at_moment : Draws → ℕ → Drawn → Drawn
at_moment Nothing t d = d
at_moment (Budget limit) t d = d
at_moment (Quota terms) t d = turned (t / terms.period) d
at_moment (Limited limit) t d = d

-- a request is counted, where its retries draw on anything
abbrev pub with_request : Drawn → Drawn
with_request d = record d { asked = d.asked + 1 }

abbrev pub counted : Draws → ℕ → Drawn → Drawn
counted draws t d = if has_draws draws then with_request (at_moment draws t d) else d

-- A window of so many requests has given no more tickets than it has; a budget has one window, which does not end.
-- What a limit grants depends on no window.
abbrev pub AreGiven : Draws → ℕ → ℕ → Type 0
AreGiven Nothing asked given = given ≤ 0
AreGiven (Budget limit) asked given = given ≤ limit
AreGiven (Quota terms) asked given = given ≤ allowed terms asked
AreGiven (Limited limit) asked given = Unit {0}

-- whether a retry may be made, where a limit has granted it or not; where nothing is drawn on it may
abbrev pub may_draw : Draws → Bool → Drawn → Bool
may_draw Nothing granted d = true
may_draw (Budget limit) granted d = nat_lt d.given limit
may_draw (Quota terms) granted d = nat_lt d.given (allowed terms d.asked)
may_draw (Limited limit) granted d = granted

-- a ticket is given, where any is
abbrev pub with_ticket : Draws → Drawn → Drawn
with_ticket Nothing d = d
with_ticket (Budget limit) d = record d { given = d.given + 1 }
with_ticket (Quota terms) d = record d { given = d.given + 1 }
with_ticket (Limited limit) d = record d { given = d.given + 1 }

abbrev pub draw_at : Draws → Bool → ℕ → Drawn → Bool × Drawn
draw_at draws granted t d = let e = at_moment draws t d in
    (may_draw draws granted e, (if may_draw draws granted e then with_ticket draws e else e))

-- so many retries were granted by as many tickets, or by none where nothing is drawn on
abbrev pub tickets_of : Draws → ℕ → ℕ
tickets_of Nothing granted = 0
tickets_of (Budget limit) granted = granted
tickets_of (Quota terms) granted = granted
tickets_of (Limited limit) granted = granted

-- what a window of a quota was asked, and has given
pub record Use : Type 0 where
  pub window : ℕ
  pub asked : ℕ
  pub given : ℕ

-- Windows before this one, the latest first: each stands once, and none gave more than its requests allow.
abbrev pub AreWithin : Terms → ℕ → List Use → Type 0
AreWithin k w [] = Unit {0}
AreWithin k w (u ∷ us) = (u.window < w) × (u.given ≤ allowed k u.asked) × AreWithin k u.window us

-- so many requests were counted in windows, and so many tickets given
pub record AreUses (uses : List Use) (asked given : ℕ) : Type 0 where
  pub asked_is : sum_by (λ (u : Use). u.asked) uses ≡ asked
  pub given_is : sum_by (λ (u : Use). u.given) uses ≡ given

-- The requests and tickets of a quota before a window are those of windows, each within its reserve and share. Where
-- retries draw on no quota nothing is said.
abbrev pub HasUses : Draws → ℕ → ℕ → ℕ → Type 0
HasUses Nothing w asked given = Unit {0}
HasUses (Budget limit) w asked given = Unit {0}
HasUses (Quota terms) w asked given = (uses : List Use) × AreWithin terms w uses × AreUses uses asked given
HasUses (Limited limit) w asked given = Unit {0}

-- The most tickets, in thousandths, of the windows before this one, in which so many requests were counted. In all of
-- them together a quota gives at most its reserve for each window and its share for each request.
abbrev pub most_before : Draws → ℕ → ℕ → ℕ
most_before Nothing w asked = 0
most_before (Budget limit) w asked = 0
most_before (Quota terms) w asked = 1000 * (terms.reserve * w) + terms.share * asked
most_before (Limited limit) w asked = 0

-- the number of the last window until a moment
abbrev pub last_window : Draws → ℕ → ℕ
last_window Nothing t = 0
last_window (Budget limit) t = 0
last_window (Quota terms) t = t / terms.period
last_window (Limited limit) t = 0

-- what holds of the tickets at every moment
pub record IsLawful (draws : Draws) (until : ℕ) (d : Drawn) : Type 0 where
  -- in each window no more are given than its requests allow
  pub here : AreGiven draws d.asked d.given
  pub before : 1000 * d.given_before ≤ most_before draws d.window d.asked_before
  pub latest : d.window ≤ last_window draws until

-- A storm of so many requests that ends at a moment gives no more tickets than it has: the budget's limit; the quota's
-- reserve for each of its windows, and its share of the requests, in thousandths. Of a limit nothing is said here.
abbrev pub AreFew : Draws → ℕ → ℕ → ℕ → Type 0
AreFew Nothing until requests tickets = tickets ≤ 0
AreFew (Budget limit) until requests tickets = tickets ≤ limit
AreFew (Quota terms) until requests tickets =
    1000 * tickets ≤ 1000 * (terms.reserve * (until / terms.period + 1)) + terms.share * requests
AreFew (Limited limit) until requests tickets = Unit {0}
