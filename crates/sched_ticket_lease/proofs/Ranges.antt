-- Leases of a store that never goes back: no number is given twice, and no window gives more than it may.
use Rattle.std.proofs.Common.{◌≡◌, ℕ, ◌+◌, ◌-◌, ◌<◌, ◌≤◌, ◌≢◌, ◌⊎◌, inl, inr, ⊎_elim, List, [], ◌∷◌, ap, arith}
use Rattle.std.proofs.Common.{lt_of_not-le}
use mathlib.Core.Logic.{dite}
use native.Mathlib.Decide.{ℕ_discrete, dec_le}
use Rattle.sched_ticket.specs.Lists.{total, Each}
use Rattle.sched_ticket_quota.specs.Windows.{within}
use Rattle.sched_ticket_quota.proofs.Numbers.{within-yes, within-low, within-high}
use Rattle.sched_ticket_lease.specs.Leases.{allows, given_of, asked_of, IsLease}
use Rattle.sched_ticket_lease.specs.Laws.{Taken, Keeps, AreTaken, has, tickets_in, told_in, RangesStandOnce}
use Rattle.sched_ticket_lease.specs.Laws.{WindowsAreKept}
use Rattle.sched_ticket_lease.specs.declared.lease.Grants.{Grants}
use Rattle.sched_ticket_lease.specs.declared.lease.Stored.{Stored}
use Rattle.sched_ticket_lease.proofs.Counts.{given-anew, given-on, asked-anew, asked-on, of-same, of-other, allows-mono}

within-one : (a m x : ℕ) → within a m x ≤ 1
within-one a m x = dite (dec_le a x)
    (λ from. dite (dec_le (a + m) x)
    (λ high. omega (arith, within-high a m x high))
    (λ not. omega (arith, within-yes a m x from (lt_of_not-le not))))
    (λ not. omega (arith, within-low a m x (lt_of_not-le not)))

-- this number of this window was given, or passed over, or its window is over
abbrev Over : ℕ → ℕ → Stored → Type 0
Over w n s = (w < s.window) ⊎ ((s.window ≡ w) × (n < s.given))

over-kept : (w n : ℕ) (s t : Stored) → Over w n s → Keeps s t → Over w n t
over-kept w n s t (inl past) (inl k) = inl (omega (arith, k.0))
over-kept w n s t (inl past) (inr k) = inl (omega (arith, k.0))
over-kept w n s t (inr here) (inl k) = inr (omega (arith, k.0, here.0), omega (arith, k.1, here.1))
over-kept w n s t (inr here) (inr k) = inl (omega (arith, k.0, here.0))

module _ (w n : ℕ) (t : Taken) (begun : t.from.window ≤ t.ask.window) (is : IsLease t.from t.ask t.lease) where
  over-leased : Over w n t.from → Over w n t.lease.stored
  over-leased (inl past) = inl (omega (arith, is.window))
  over-leased (inr here) = dite (ℕ_discrete t.ask.window w)
      (λ same. inr (
        omega (arith, is.window, same),
        omega (arith, is.given, is.first, given-on t.from t.ask.window (omega (arith, here.0)), here.1),
      ))
      (λ other. inl (omega (arith, is.window, here.0, other)))

  -- a lease has no such number
  has-none : Over w n t.from → has w n t ≡ 0
  has-none over = dite (ℕ_discrete t.ask.window w)
      (λ same. ⊎_elim
      (λ (past : w < t.from.window). absurd (let no : ⊥ = omega (arith, same) in no))
      (λ (here : (t.from.window ≡ w) × (n < t.from.given)).
      omega (
        arith,
        of-same t.ask.window w (within t.lease.first t.lease.tickets n) same,
        within-low t.lease.first t.lease.tickets n
            (omega (arith, is.first, given-on t.from t.ask.window (omega (arith, here.0)), here.1)),
      ))
      over)
      (λ other. of-other t.ask.window w (within t.lease.first t.lease.tickets n) other)

  -- it has it once, or not at all, and then it is over
  has-once : (has w n t ≡ 0) ⊎ ((has w n t ≤ 1) × Over w n t.lease.stored)
  has-once = dite (ℕ_discrete t.ask.window w)
      (λ same. dite (dec_le (t.lease.first + t.lease.tickets) n)
      (λ high. inl (omega (
        arith,
        of-same t.ask.window w (within t.lease.first t.lease.tickets n) same,
        within-high t.lease.first t.lease.tickets n high,
      )))
      (λ not. let lt : n < t.lease.first + t.lease.tickets = lt_of_not-le not in
      inr (
        omega (
          arith,
          of-same t.ask.window w (within t.lease.first t.lease.tickets n) same,
          within-one t.lease.first t.lease.tickets n,
        ),
        inr (omega (arith, is.window, same), omega (arith, is.given)),
      )))
      (λ other. inl (of-other t.ask.window w (within t.lease.first t.lease.tickets n) other))

none-left : (w n : ℕ) (s : Stored) (ts : List Taken) → Over w n s → AreTaken s ts → total (has w n) ts ≡ 0
none-left w n s [] over taken = omega arith
none-left w n s (t ∷ ts) over taken =
    let here : Over w n t.from = over-kept w n s t.from over taken.0 in
    omega (
      arith,
      has-none w n t taken.1 taken.2 here,
      none-left w n t.lease.stored ts (over-leased w n t taken.1 taken.2 here) taken.3,
    )

pub ranges_stand_once : RangesStandOnce
ranges_stand_once s [] taken w n = omega arith
ranges_stand_once s (t ∷ ts) taken w n = ⊎_elim
    (λ (none : has w n t ≡ 0). omega (arith, none, ranges_stand_once t.lease.stored ts taken.3 w n))
    (λ (one : (has w n t ≤ 1) × Over w n t.lease.stored).
    omega (arith, one.0, none-left w n t.lease.stored ts one.1 taken.3))
    (has-once w n t taken.1 taken.2)

-- the windows never fall
no-earlier : (s t : Stored) → Keeps s t → s.window ≤ t.window
no-earlier s t (inl k) = omega (arith, k.0)
no-earlier s t (inr k) = omega (arith, k.0)

-- what was given of a window is no less later on, and the requests are no more
module _ (w : ℕ) (s t : Stored) (to : t.window ≤ w) where
  given-kept : Keeps s t → given_of s w ≤ given_of t w
  given-kept (inl k) = dite (dec_le w s.window)
      (λ on. omega (arith, k.0, k.1, given-on s w on, given-on t w (omega (arith, k.0))))
      (λ not. omega (arith, given-anew s w (lt_of_not-le not)))
  given-kept (inr k) = omega (arith, given-anew s w (omega (arith, k.0)))

  asked-kept : Keeps s t → asked_of t w ≤ asked_of s w
  asked-kept (inl k) = dite (dec_le w s.window)
      (λ on. omega (arith, k.0, k.2, asked-on s w on, asked-on t w (omega (arith, k.0))))
      (λ not. let lt : s.window < w = lt_of_not-le not in omega (arith, asked-anew t w (omega (arith, k.0))))
  asked-kept (inr k) = dite (dec_le w t.window)
      (λ on. omega (arith, k.1, asked-on t w on))
      (λ not. omega (arith, asked-anew t w (lt_of_not-le not)))

-- a window that is over gives no more
none-later : (w : ℕ) (s : Stored) (ts : List Taken) → w < s.window → AreTaken s ts → total (tickets_in w) ts ≡ 0
none-later w s [] past taken = omega arith
none-later w s (t ∷ ts) past taken =
    let later : w < t.ask.window = omega (arith, no-earlier s t.from taken.0, taken.1) in
    omega (
      arith,
      of-other t.ask.window w t.lease.tickets (λ e. let no : ⊥ = omega (arith, e, later) in no),
      none-later w t.lease.stored ts (omega (arith, taken.2.window, later)) taken.3,
    )

abbrev Asks : Grants → ℕ → List Taken → Type 0
Asks g w ts = Each (λ (t : Taken). t.ask.window ≡ w → t.ask.grants ≡ g) ts

-- leases of a window come to no more than is left of it, the requests told
abbrev Bounded : Grants → ℕ → Stored → List Taken → Type 0
Bounded g w s ts = total (tickets_in w) ts ≤ allows g (asked_of s w + total (told_in w) ts) - given_of s w

module _ (g : Grants) (w : ℕ) (s : Stored) (t : Taken) (ts : List Taken) (kept : Keeps s t.from)
    (begun : t.from.window ≤ t.ask.window) (is : IsLease t.from t.ask t.lease)
    (rest : Bounded g w t.lease.stored ts) where
  bounded-here : t.ask.window ≡ w → t.ask.grants ≡ g → Bounded g w s (t ∷ ts)
  bounded-here same terms =
      let n : ℕ = total (told_in w) ts in
      let now : ℕ = asked_of t.lease.stored w in
      let then : ℕ = asked_of s w + (told_in w t + n) in
      let tickets-are : tickets_in w t ≡ t.lease.tickets = of-same t.ask.window w t.lease.tickets same in
      let told-are : told_in w t ≡ t.ask.told = of-same t.ask.window w t.ask.told same in
      let at : w ≤ t.lease.stored.window = omega (arith, is.window, same) in
      let from-given : given_of t.from t.ask.window ≡ given_of t.from w = ap (given_of t.from) same in
      let from-asked : asked_of t.from t.ask.window ≡ asked_of t.from w = ap (asked_of t.from) same in
      let now-is : now ≡ t.lease.stored.asked = asked-on t.lease.stored w at in
      let more : now + n ≤ then = omega (
        arith,
        now-is,
        is.told,
        from-asked,
        told-are,
        asked-kept w s t.from (omega (arith, begun, same)) kept,
      ) in
      let allowed-now : allows t.ask.grants t.lease.stored.asked ≡ allows g t.lease.stored.asked =
      ap (λ (h : Grants). allows h t.lease.stored.asked) terms in
      let up : allows g t.lease.stored.asked ≤ allows g (now + n) =
      allows-mono g t.lease.stored.asked (now + n) (omega (arith, now-is)) in
      let up-more : allows g (now + n) ≤ allows g then = allows-mono g (now + n) then more in
      omega (
        arith,
        rest,
        tickets-are,
        is.tickets,
        is.first,
        is.given,
        from-given,
        allowed-now,
        up,
        up-more,
        given-on t.lease.stored w at,
        given-kept w s t.from (omega (arith, begun, same)) kept,
      )

  bounded-before : t.ask.window < w → Bounded g w s (t ∷ ts)
  bounded-before before =
      let n : ℕ = total (told_in w) ts in
      let other : t.ask.window ≢ w = λ e. let no : ⊥ = omega (arith, e, before) in no in
      let none-told : told_in w t ≡ 0 = of-other t.ask.window w t.ask.told other in
      let now-none : asked_of t.lease.stored w ≡ 0 = asked-anew t.lease.stored w (omega (arith, is.window, before)) in
      let up : allows g (asked_of t.lease.stored w + n) ≤ allows g (asked_of s w + (told_in w t + n)) =
      allows-mono g (asked_of t.lease.stored w + n) (asked_of s w + (told_in w t + n)) (omega (arith, now-none)) in
      omega (
        arith,
        rest,
        up,
        of-other t.ask.window w t.lease.tickets other,
        given-anew s w (omega (arith, no-earlier s t.from kept, begun, before)),
      )

bounded : (g : Grants) (w : ℕ) (s : Stored) (ts : List Taken) → AreTaken s ts → Asks g w ts → s.window ≤ w
    → Bounded g w s ts
bounded g w s [] taken asks to = omega arith
bounded g w s (t ∷ ts) taken asks to = dite (dec_le t.ask.window w)
    (λ le.
    let rest : Bounded g w t.lease.stored ts =
    bounded g w t.lease.stored ts taken.3 asks.1 (omega (arith, taken.2.window, le)) in
    dite (ℕ_discrete t.ask.window w)
    (λ same. bounded-here g w s t ts taken.0 taken.1 taken.2 rest same (asks.0 same))
    (λ other. bounded-before g w s t ts taken.0 taken.1 taken.2 rest (omega (arith, le, other))))
    (λ not.
    let later : w < t.ask.window = lt_of_not-le not in
    omega (
      arith,
      of-other t.ask.window w t.lease.tickets (λ e. let no : ⊥ = omega (arith, e, later) in no),
      none-later w t.lease.stored ts (omega (arith, taken.2.window, later)) taken.3,
    ))

pub windows_are_kept : WindowsAreKept
windows_are_kept s ts none taken g w asks = dite (dec_le s.window w)
    (λ to.
    let n : ℕ = total (told_in w) ts in
    let none-asked : asked_of s w ≡ 0 = dite (dec_le w s.window)
    (λ on. omega (arith, none, asked-on s w on))
    (λ not. asked-anew s w (lt_of_not-le not)) in
    omega (arith, bounded g w s ts taken asks to, allows-mono g (asked_of s w + n) n (omega (arith, none-asked))))
    (λ not. omega (arith, none-later w s ts (lt_of_not-le not) taken))
