-- The laws of a quota that carries.
use Rattle.std.proofs.Common.{◌≡◌, ℕ, Bool, zero, suc, true, false, ◌+◌, ◌*◌, ◌/◌, ◌<◌, ◌≤◌, List, [], ◌∷◌, refl, ap}
use Rattle.std.proofs.Common.{arith, lt_of_not-le}
use mathlib.Core.Logic.{dite}
use native.Mathlib.Decide.{ℕ_discrete, dec_le}
use Rattle.atomic_table.specs.Table.{State}
use Rattle.sched_ticket.specs.Lists.{is}
use Rattle.sched_ticket.proofs.Sums.{total-le, is-same, is-other}
use Rattle.sched_ticket_quota.specs.Windows.{window_of, first_of, terms_of, own_numbers, late_numbers, within, count_in}
use Rattle.sched_ticket_quota.specs.Windows.{count_late, drawn_at, count_drawn, before}
use Rattle.sched_ticket_quota.specs.Rule.{ticket_weight, tickets_in, late_in, requests_in, in_force, IsKept}
use Rattle.sched_ticket_quota.specs.Clocks.{over, AreMost}
use Rattle.sched_ticket_quota.specs.Carried.{carried_from, drawn_in, SharesAreKept, RunsAreKept}
use Rattle.sched_ticket_quota.specs.declared.view.Terms.{Terms}
use Rattle.sched_ticket_quota.specs.declared.view.View.{View}
use Rattle.sched_ticket_quota.proofs.Numbers.{within-yes, within-low, within-high, share-most}
use Rattle.sched_ticket_quota.proofs.Clocks.{each-reserve, scaled}

-- a number is of a window where it lies within its numbers
is-within : (x n : ℕ) → is x (window_of n) ≡ within (first_of x) 4294967296 n
is-within x n = dite (ℕ_discrete (window_of n) x)
    (λ same. omega (
      arith,
      is-same x (window_of n) same,
      within-yes (first_of x) 4294967296 n (omega (arith, same)) (omega (arith, same)),
    ))
    (λ other. dite (dec_le x (window_of n))
    (λ low. omega
    (arith, is-other x (window_of n) other, within-high (first_of x) 4294967296 n (omega (arith, low, other))))
    (λ not. omega (
      arith,
      is-other x (window_of n) other,
      within-low (first_of x) 4294967296 n (omega (arith, lt_of_not-le not)),
    )))

none-within : (a t : ℕ) → within a 0 t ≡ 0
none-within a t = dite (dec_le a t)
    (λ up. within-high a 0 t (omega (arith, up)))
    (λ not. within-low a 0 t (lt_of_not-le not))

-- a number is one that the next window draws
abbrev is-late : Bool → ℕ → ℕ → ℕ
is-late c t w = within (first_of w + own_numbers c) (late_numbers c) t

-- a ticket that is drawn in a window is one of its own, or of the share of the one before
one-drawn : (c : Bool) (x t : ℕ)
    → is x (drawn_at c t) + is-late c t x ≤ within (first_of x) 4294967296 t + before c (is-late c t) x
one-drawn false x t =
    let here : is x (drawn_at false t) ≡ within (first_of x) 4294967296 t = is-within x t in
    let none : is-late false t x ≡ 0 = none-within (first_of x + 4294967296) t in
    omega (arith, here, none)
one-drawn true zero t =
    let here = is-within 0 (t + 2147483648) in
    dite (dec_le 4294967296 t)
    (λ high. omega (
      arith,
      here,
      within-high 0 4294967296 (t + 2147483648) (omega (arith, high)),
      within-high 2147483648 2147483648 t high,
    ))
    (λ not. dite (dec_le 2147483648 t)
    (λ late. omega (
      arith,
      here,
      within-high 0 4294967296 (t + 2147483648) (omega (arith, late)),
      within-yes 2147483648 2147483648 t late (lt_of_not-le not),
      within-yes 0 4294967296 t (omega arith) (lt_of_not-le not),
    ))
    (λ own. let low : t < 2147483648 = lt_of_not-le own in
    omega (
      arith,
      here,
      within-yes 0 4294967296 (t + 2147483648) (omega arith) (omega (arith, low)),
      within-low 2147483648 2147483648 t low,
      within-yes 0 4294967296 t (omega arith) (omega (arith, low)),
    )))
one-drawn true (suc y) t =
    let a : ℕ = first_of (suc y) in
    let here = is-within (suc y) (t + 2147483648) in
    dite (dec_le (a + 4294967296) t)
    (λ high. omega (
      arith,
      here,
      within-high a 4294967296 (t + 2147483648) (omega (arith, high)),
      within-high (a + 2147483648) 2147483648 t (omega (arith, high)),
    ))
    (λ not-high. let up : t < a + 4294967296 = lt_of_not-le not-high in dite (dec_le (a + 2147483648) t)
    (λ late. omega (
      arith,
      here,
      within-high a 4294967296 (t + 2147483648) (omega (arith, late)),
      within-yes (a + 2147483648) 2147483648 t late (omega (arith, up)),
      within-yes a 4294967296 t (omega (arith, late)) up,
    ))
    (λ not-late. let low : t < a + 2147483648 = lt_of_not-le not-late in dite (dec_le a t)
    (λ own. omega (
      arith,
      here,
      within-yes a 4294967296 (t + 2147483648) (omega (arith, own)) (omega (arith, low)),
      within-low (a + 2147483648) 2147483648 t low,
      within-yes a 4294967296 t own up,
    ))
    (λ not-own. let less : t < a = lt_of_not-le not-own in dite (dec_le a (t + 2147483648))
    (λ carried. omega (
      arith,
      here,
      within-yes a 4294967296 (t + 2147483648) carried (omega (arith, low)),
      within-low (a + 2147483648) 2147483648 t low,
      within-yes (first_of y + 2147483648) 2147483648 t (omega (arith, carried)) (omega (arith, less)),
    ))
    (λ none. omega (
      arith,
      here,
      within-low a 4294967296 (t + 2147483648) (lt_of_not-le none),
      within-low (a + 2147483648) 2147483648 t low,
    )))))

before-plus : (c : Bool) (f g : ℕ → ℕ) (x : ℕ) → before c (λ y. f y + g y) x ≡ before c f x + before c g x
before-plus false f g x = refl
before-plus true f g zero = refl
before-plus true f g (suc x) = refl

all-drawn : (c : Bool) (x : ℕ) (ts : List ℕ)
    → count_drawn c x ts + count_late c x ts ≤ count_in x ts + before c (λ y. count_late c y ts) x
all-drawn c x [] = omega arith
all-drawn c x (t ∷ ts) =
    omega (arith, one-drawn c x t, all-drawn c x ts, before-plus c (is-late c t) (λ y. count_late c y ts) x)

-- so are those of all passes
views-drawn : (c : Bool) (x : ℕ) (views : List View)
    → drawn_in c views x + carried_from c views x ≤ tickets_in views x + before c (carried_from c views) x
views-drawn c x [] = omega arith
views-drawn c x (v ∷ views) = omega (
  arith,
  all-drawn c x v.tickets,
  views-drawn c x views,
  before-plus c (λ y. count_late c y v.tickets) (carried_from c views) x,
)

before-le : (c : Bool) (f : ℕ → ℕ) (x : ℕ) → before c f (suc x) ≤ f x
before-le false f x = omega arith
before-le true f x = omega arith

-- the tickets drawn in a run of windows are those of the windows, but what the last leaves, and what the one before
-- left
pub runs-drawn : (c : Bool) (views : List View) (w n : ℕ) → over (drawn_in c views) w n
    + before c (carried_from c views) (w + n) ≤ over (tickets_in views) w n + before c (carried_from c views) w
runs-drawn c views w zero = let none : w + 0 ≡ w = omega arith in
    omega (arith, ap (before c (carried_from c views)) none)
runs-drawn c views w (suc n) =
    let next : w + suc n ≡ suc (w + n) = omega arith in
    omega (
      arith,
      runs-drawn c views w n,
      views-drawn c (w + n) views,
      before-le c (carried_from c views) (w + n),
      ap (before c (carried_from c views)) next,
    )

-- a window leaves no more than its share
late-enough : (c : Bool) (views : List View) (w : ℕ) → carried_from c views w ≤ late_in c views w
late-enough c views w = total-le (λ (v : View). count_late c w v.tickets)
    (ticket_weight (within (first_of w + own_numbers c) (late_numbers c))) views (λ i u at. omega arith)

pub shares_are_kept : SharesAreKept
shares_are_kept k s kept w n most = omega (
  arith,
  late-enough kept.carries s.views w,
  kept.orderly.given.shares w n (λ x some-force. most (terms_of k x) (x, some-force, refl)),
)

module _ (k : Terms) (s : State ℕ View) (kept : IsKept k s) (most : Terms) (greatest : AreMost k s.views most) where
  share-kept : (w : ℕ) → 1000 * carried_from kept.carries s.views w ≤ most.share * requests_in s.views w
  share-kept w =
      let few = kept.orderly.given.shares w ((most.share * requests_in s.views w) / 1000)
      (share-most k (in_force k s.views) most.share (requests_in s.views w)
      (λ x some-force. (greatest (terms_of k x) (x, some-force, refl)).1)) in
      omega (arith, few, late-enough kept.carries s.views w)

  before-kept : (c : Bool) (f : ℕ → ℕ) → ((w : ℕ) → 1000 * f w ≤ most.share * requests_in s.views w) → (w : ℕ)
      → 1000 * before c f w ≤ most.share * before c (requests_in s.views) w
  before-kept false f few w = omega arith
  before-kept true f few zero = omega arith
  before-kept true f few (suc w) = few w

  -- what the window before left of its share is within it
  pub carried-kept : (w : ℕ) → 1000 * before kept.carries (carried_from kept.carries s.views) w ≤ most.share
      * before kept.carries (requests_in s.views) w
  carried-kept w = before-kept kept.carries (carried_from kept.carries s.views) share-kept w

pub runs_are_kept : RunsAreKept
runs_are_kept k s kept most greatest w count =
    let D : ℕ = over (drawn_in kept.carries s.views) w count in
    let B : ℕ = before kept.carries (requests_in s.views) w in
    let R : ℕ = over (requests_in s.views) w count in
    scaled D count most.reserve (most.share * (B + R))
    (omega (
      arith,
      runs-drawn kept.carries s.views w count,
      carried-kept k s kept most greatest w,
      each-reserve k s kept most greatest w count,
    ))
