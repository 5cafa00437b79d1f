-- The laws of windows and clocks.
use Rattle.std.proofs.Common.{◌≡◌, ℕ, zero, suc, ◌+◌, ◌-◌, ◌*◌, ◌/◌, ◌<◌, ◌≤◌, ◌⊎◌, ◌∷◌, min, cond, ◌++◌, inl, inr}
use Rattle.std.proofs.Common.{refl, sym, ap, ◌∙◌, arith, lt-ltb, le-ltb, lt_of_not-le}
use Rattle.std.proofs.Math.Nat.{div-mul-le_self, lt-div-mul-add, mul-le-mul_right}
use Rattle.std.proofs.lemmas.Nat.{le-div}
use mathlib.Core.Logic.{dite}
use native.Mathlib.Decide.{dec_le}
use Rattle.atomic_table.specs.Table.{State}
use Rattle.sched_ticket_quota.specs.Windows.{window_of, first_of, terms_of, window_at, end_of, late_numbers}
use Rattle.sched_ticket_quota.specs.View.{numbers}
use Rattle.sched_ticket_quota.specs.Rule.{tickets_in, requests_in, in_force, begins, IsKept, words_of}
use Rattle.sched_ticket_quota.specs.Held.{Name}
use Rattle.sched_ticket_quota.specs.Calls.{Turned, Counted}
use Rattle.sched_ticket_quota.specs.Clocks.{OpensItsOwn, DrawsNoEarlier, CountsNoEarlier, WindowsEnd, EndsWithinAPeriod}
use Rattle.sched_ticket_quota.specs.Clocks.{over, AreMost, ClocksAreBounded}
use Rattle.sched_ticket_quota.specs.declared.view.Terms.{Terms}
use Rattle.sched_ticket_quota.specs.declared.view.View.{View}
use Rattle.sched_ticket_quota.proofs.Numbers.{window_at-mono, below-mono, allow-most, few-carried, drawn-late}
use Rattle.sched_ticket_quota.proofs.Whole.{windows_kept}

-- a pass that comes to a window opened none, or this one
abbrev pub OpensOwn : Name → ℕ → View → View → Type 0
OpensOwn b now v w = (w.opened ≡ v.opened) ⊎ (w.opened ≡ first_of (window_at b.terms b.start now) ∷ v.opened)

turned-opens : (b : Name) (now : ℕ) (v u : View) → Turned b now v u → OpensOwn b now v u
turned-opens b now v u turned = elim turned [
  | inl there ↦ inl (ap (λ (x : View). x.opened) there.1)
  | inr comes ↦ elim comes [
    | inl meets ↦ inl (ap (λ (x : View). x.opened) meets.3)
    | inr opens ↦ inr (ap (λ (x : View). x.opened) opens.5)
  ]
]

pub opens-then : (b : Name) (now : ℕ) (v u w : View) → Turned b now v u → w.opened ≡ u.opened → OpensOwn b now v w
opens-then b now v u w turned kept = elim (turned-opens b now v u turned) [
  | inl same ↦ inl (kept ∙ same)
  | inr opened ↦ inr (kept ∙ opened)
]

-- and its window is no earlier than the moment's
turned-reaches : (b : Name) (now : ℕ) (v u : View) → Turned b now v u → window_at b.terms b.start now ≤ window_of u.seen
turned-reaches b now v u turned = elim turned [
  | inl there ↦ omega (arith, there.0, ap (λ (x : View). x.seen) there.1)
  | inr comes ↦ elim comes [
    | inl meets ↦ omega (arith, meets.2, ap (λ (x : View). x.seen) meets.3)
    | inr opens ↦ omega (arith, ap (λ (x : View). x.seen) opens.5)
  ]
]

counted-opens : (n : ℕ) (u w : View) → Counted n u w → w.opened ≡ u.opened
counted-opens n u w counted = elim counted [
  | inl none ↦ ap (λ (x : View). x.opened) none.1
  | inr one ↦ ap (λ (x : View). x.opened) one.3
]

pub opens_its_own : OpensItsOwn
opens_its_own b now v w called = elim called [
  | inl deposited ↦
      let did = deposited.1 in
      opens-then b now v did.0 w did.1 (counted-opens deposited.0 did.0 w did.2)
  | inr rest ↦ elim rest [
    | inl drew ↦
        let won = drew.1.2 in
        opens-then b now v drew.1.0 w drew.1.1
        (ap (λ (x : View). x.opened) won.gained ∙ ap (λ (x : View). x.opened) won.tries.same)
    | inr rest ↦ elim rest [
      | inl refused ↦ opens-then b now v refused.1.0 w refused.1.1 (ap (λ (x : View). x.opened) refused.1.2.tries.same)
      | inr told ↦ opens-then b now v told.1.turned w told.1.turns (ap (λ (x : View). x.opened) told.1.tries.same)
    ]
  ]
]

turned-kind : (b : Name) (now : ℕ) (v u : View) → Turned b now v u → u.carries ≡ v.carries
turned-kind b now v u turned = elim turned [
  | inl there ↦ ap (λ (x : View). x.carries) there.1
  | inr comes ↦ elim comes [
    | inl meets ↦ ap (λ (x : View). x.carries) meets.3
    | inr opens ↦ ap (λ (x : View). x.carries) opens.5
  ]
]

pub draws_no_earlier : DrawsNoEarlier
draws_no_earlier b now v t w kind drew =
    let won = drew.2 in
    let u : View = won.tried in
    let same : u.carries ≡ b.carries =
    ap (λ (x : View). x.carries) won.tries.same ∙ turned-kind b now v drew.0 drew.1 ∙ kind in
    let few = few-carried u.carries (terms_of u.terms u.current) u.seen u.past u.found in
    omega (
      arith,
      turned-reaches b now v drew.0 drew.1,
      won.tries.later,
      drawn-late b.carries t (window_of u.seen) (omega (arith, few, ap late_numbers same, won.ticket)),
    )

pub counts_no_earlier : CountsNoEarlier
counts_no_earlier b now n v w deposited =
    let u : View = deposited.0 in
    let kept : u.requests ≡ v.requests = elim (deposited.1) [
      | inl there ↦ ap (λ (x : View). x.requests) there.1
      | inr comes ↦ elim comes [
        | inl meets ↦ ap (λ (x : View). x.requests) meets.3
        | inr opens ↦ ap (λ (x : View). x.requests) opens.5
      ]
    ] in
    elim (deposited.2) [
      | inl none ↦ inl (ap (λ (x : View). x.requests) none.1 ∙ kept)
      | inr one ↦ inr (
        one.1,
        ap (λ (x : View). x.requests) one.3 ∙ ap (λ xs. numbers one.1 n ++ xs) kept,
        omega (arith, turned-reaches b now v u deposited.1, one.2),
      )
    ]

module _ (k : Terms) (start : ℕ) where
  end_of-yes : (w : ℕ) → w < 2999999999 → end_of k start w ≡ min ((start + w + 1) * k.period) 4611686018427387903
  end_of-yes w h = ap (λ b. cond b (min ((start + w + 1) * k.period) 4611686018427387903) 4611686018427387903)
      (lt-ltb w 2999999999 h)

  end_of-no : (w : ℕ) → 2999999999 ≤ w → end_of k start w ≡ 4611686018427387903
  end_of-no w h = ap (λ b. cond b (min ((start + w + 1) * k.period) 4611686018427387903) 4611686018427387903)
      (le-ltb w 2999999999 h)

  pub before-end : (w now : ℕ) → now < end_of k start w → window_at k start now ≤ w
  before-end w now early = dite (dec_le 2999999999 w)
      (λ last. omega arith)
      (λ not.
      let down : now < (start + w + 1) * k.period = omega (arith, end_of-yes w (lt_of_not-le not), early) in
      dite (dec_le (start + w + 1) (now / k.period))
      (λ le. absurd (omega (arith, mul-le-mul_right k.period le, div-mul-le_self now k.period, down)))
      (λ more. omega (arith, lt_of_not-le more)))

  after-end : (w now : ℕ) → 0 < k.period → end_of k start w < 4611686018427387903 → end_of k start w ≤ now
      → w < window_at k start now
  after-end w now some-period ends late = dite (dec_le 2999999999 w)
      (λ last. absurd (omega (arith, end_of-no w last, ends)))
      (λ not.
      let less : w < 2999999999 = lt_of_not-le not in
      let up : (start + w + 1) * k.period ≤ now = omega (arith, end_of-yes w less, ends, late) in
      omega (arith, le-div (start + w + 1) now k.period some-period up, less))

  ends-soon : (now : ℕ) → 0 < k.period → start * k.period ≤ now → window_at k start now < 2999999999
      → end_of k start (window_at k start now) ≤ now + k.period
  ends-soon now some-period begun less =
      let w : ℕ = window_at k start now in
      let from : start ≤ now / k.period = le-div start now k.period some-period begun in
      let same : start + w + 1 ≡ suc (now / k.period) = omega arith in
      let size : (start + w + 1) * k.period ≡ suc (now / k.period) * k.period = ap (λ x. x * k.period) same in
      omega (arith, end_of-yes w less, size, div-mul-le_self now k.period)

  -- two moments lie no more windows apart than periods, and one
  pub windows-apart : (from to : ℕ) → 0 < k.period → from ≤ to
      → window_at k start to ≤ window_at k start from + (to - from) / k.period + 1
  windows-apart from to some-period le =
      let a : ℕ = from / k.period in
      let d : ℕ = (to - from) / k.period in
      let low : from < a * k.period + k.period = lt-div-mul-add some-period in
      let apart : to - from < d * k.period + k.period = lt-div-mul-add some-period in
      dite (dec_le (a + d + 2) (to / k.period))
      (λ more.
      let up : (a + d + 2) * k.period ≤ to / k.period * k.period = mul-le-mul_right k.period more in
      absurd (omega (arith, up, low, apart, div-mul-le_self to k.period)))
      (λ not. omega (arith, lt_of_not-le not))

pub windows_end : WindowsEnd
windows_end b w now terms =
    (before-end b.terms b.start w now, after-end b.terms b.start w now (omega (arith, terms.period)))

pub ends_within_a_period : EndsWithinAPeriod
ends_within_a_period b now terms begun less = ends-soon b.terms b.start now (omega (arith, terms.period)) begun less

pub over-split : (f : ℕ → ℕ) (w c d : ℕ) → over f w (c + d) ≡ over f w c + over f (w + c) d
over-split f w c zero = let e : c + 0 ≡ c = omega arith in omega (arith, ap (over f w) e)
over-split f w c (suc d) =
    let e : c + suc d ≡ suc (c + d) = omega arith in
    let next : w + (c + d) ≡ w + c + d = omega arith in
    omega (arith, ap (over f w) e, over-split f w c d, ap f next)

-- a thousandth of what a thousand times as many are bounded by
pub scaled : (n x r shares : ℕ) → 1000 * n ≤ x * (1000 * r) + shares → n ≤ x * r + shares / 1000
scaled n x r shares le = omega (arith, le)

module _ (k : Terms) (s : State ℕ View) (kept : IsKept k s) (most : Terms) (greatest : AreMost k s.views most) where
  -- a window has no more than the greatest reserve and share allow
  window-most : (w : ℕ) → 1000 * tickets_in s.views w ≤ 1000 * most.reserve + most.share * requests_in s.views w
  window-most w =
      let n : ℕ = requests_in s.views w in
      omega (
        arith,
        windows_kept k (words_of s kept.window kept.latest kept.carries) s.views kept.orderly w
            (most.reserve + (most.share * n) / 1000)
            (allow-most k (in_force k s.views) most.reserve most.share n
            (λ x some-force. greatest (terms_of k x) (x, some-force, refl))),
      )

  -- so many windows have no more than their reserves and shares
  pub each-reserve : (w c : ℕ)
      → 1000 * over (tickets_in s.views) w c ≤ c * (1000 * most.reserve) + most.share * over (requests_in s.views) w c
  each-reserve w zero = omega arith
  each-reserve w (suc c) = omega (arith, each-reserve w c, window-most (w + c))

  -- of windows after the first, each reserve is of one that was begun
  begun-reserve : (w c : ℕ) → 0 < w → 1000 * over (tickets_in s.views) w c ≤ over (begins s.views) w c
      * (1000 * most.reserve) + most.share * over (requests_in s.views) w c
  begun-reserve w zero some-window = omega arith
  begun-reserve w (suc c) some-window = dite (dec_le (tickets_in s.views (w + c)) 0)
      (λ none. omega (arith, begun-reserve w c some-window, none))
      (λ not.
      let begun : 1 ≤ begins s.views (w + c) = kept.orderly.entered (w + c) (omega arith) (lt_of_not-le not) in
      omega (arith, begun-reserve w c some-window, window-most (w + c), mul-le-mul_right (1000 * most.reserve) begun))

  -- where of the windows after this one so few were begun
  pub bounded-by : (from to apart count ahead : ℕ) → from ≤ to → to ≤ from + apart + 1
      → ((e : ℕ) → to + 1 + e ≤ from + count → over (begins s.views) (to + 1) e ≤ ahead)
      → 1000 * over (tickets_in s.views) from count ≤ (apart + 2 + ahead) * (1000 * most.reserve) + most.share
      * over (requests_in s.views) from count
  bounded-by from to apart count ahead le near few =
      let r : ℕ = 1000 * most.reserve in
      let d : ℕ = to + 1 - from in
      let T : ℕ → ℕ = tickets_in s.views in
      let R : ℕ → ℕ = requests_in s.views in
      dite (dec_le count d)
      (λ less.
      let within-it : count ≤ apart + 2 + ahead = omega arith in
      omega (arith, each-reserve from count, mul-le-mul_right r within-it))
      (λ not.
      let more : d < count = lt_of_not-le not in
      let e : ℕ = count - d in
      let all : d + e ≡ count = omega arith in
      let next : from + d ≡ to + 1 = omega arith in
      let first : over T from count ≡ over T from d + over T (to + 1) e =
      sym (ap (over T from) all) ∙ over-split T from d e ∙ ap (λ x. over T from d + over T x e) next in
      let asked : over R from count ≡ over R from d + over R (to + 1) e =
      sym (ap (over R from) all) ∙ over-split R from d e ∙ ap (λ x. over R from d + over R x e) next in
      let rest : over (begins s.views) (to + 1) e ≤ ahead = few e (omega arith) in
      let both : d + over (begins s.views) (to + 1) e ≤ apart + 2 + ahead = omega arith in
      let shares : most.share * over R from count ≡ most.share * (over R from d + over R (to + 1) e) =
      ap (λ x. most.share * x) asked in
      omega (
        arith,
        each-reserve from d,
        begun-reserve (to + 1) e (omega arith),
        first,
        shares,
        mul-le-mul_right r both,
      ))

pub clocks_are_bounded : ClocksAreBounded
clocks_are_bounded b s terms kept most greatest from to count ahead le few =
    let k : Terms = b.terms in
    let some-period : 0 < k.period = omega (arith, terms.period) in
    let apart : ℕ = (to - from) / k.period in
    scaled (over (tickets_in s.views) (window_at k b.start from) count) (apart + 2 + ahead) most.reserve
    (most.share * over (requests_in s.views) (window_at k b.start from) count)
    (bounded-by k s kept most greatest (window_at k b.start from) (window_at k b.start to) apart count ahead
    (window_at-mono k b.start from to le) (windows-apart k b.start from to some-period le)
    (λ e inside. omega (
      arith,
      few,
      below-mono (λ i. begins s.views (window_at k b.start to + 1 + i)) e count
          (omega (arith, inside, window_at-mono k b.start from to le)),
    )))
