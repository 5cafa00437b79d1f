-- All holders of what a store keeps, by what it leased.
use Rattle.std.proofs.Common.{◌≡◌, ℕ, ◌+◌, List, [], ◌∷◌, arith}
use mathlib.Core.Logic.{dite}
use native.Mathlib.Decide.{ℕ_discrete}
use Rattle.sched_ticket.specs.Lists.{total, is}
use Rattle.sched_ticket.proofs.Sums.{below-is}
use Rattle.sched_ticket_quota.specs.Windows.{within}
use Rattle.sched_ticket_lease.specs.Spans.{between}
use Rattle.sched_ticket_lease.specs.Laws.{Taken, has, tickets_in}
use Rattle.sched_ticket_lease.specs.Histories.{leased_by, SharedNumbersStandOnce, SharedWindowsAreKept}
use Rattle.sched_ticket_lease.proofs.Counts.{of-same, of-other}
use Rattle.sched_ticket_lease.proofs.Ranges.{ranges_stand_once, windows_are_kept}
use Rattle.sched_ticket_lease.proofs.Weights.{counted}
use Rattle.sched_ticket_lease.proofs.Granted.{all-granted}

leased-number : (w n : ℕ) (t : Taken) → leased_by (is n) w t ≡ has w n t
leased-number w n t = dite (ℕ_discrete t.ask.window w)
    (λ same. omega (
      arith,
      of-same t.ask.window w (between (is n) t.lease.first (t.lease.first + t.lease.tickets)) same,
      of-same t.ask.window w (within t.lease.first t.lease.tickets n) same,
      below-is n t.lease.first,
      below-is n (t.lease.first + t.lease.tickets),
    ))
    (λ other. omega (
      arith,
      of-other t.ask.window w (between (is n) t.lease.first (t.lease.first + t.lease.tickets)) other,
      of-other t.ask.window w (within t.lease.first t.lease.tickets n) other,
    ))

leased-numbers : (w n : ℕ) (ts : List Taken) → total (leased_by (is n) w) ts ≡ total (has w n) ts
leased-numbers w n [] = omega arith
leased-numbers w n (t ∷ ts) = omega (arith, leased-number w n t, leased-numbers w n ts)

leased-one : (w : ℕ) (t : Taken) → leased_by (λ _. 1) w t ≡ tickets_in w t
leased-one w t = dite (ℕ_discrete t.ask.window w)
    (λ same. omega (
      arith,
      of-same t.ask.window w (between (λ _. 1) t.lease.first (t.lease.first + t.lease.tickets)) same,
      of-same t.ask.window w t.lease.tickets same,
      counted t.lease.first (t.lease.first + t.lease.tickets),
    ))
    (λ other. omega (
      arith,
      of-other t.ask.window w (between (λ _. 1) t.lease.first (t.lease.first + t.lease.tickets)) other,
      of-other t.ask.window w t.lease.tickets other,
    ))

leased-all : (w : ℕ) (ts : List Taken) → total (leased_by (λ _. 1) w) ts ≡ total (tickets_in w) ts
leased-all w [] = omega arith
leased-all w (t ∷ ts) = omega (arith, leased-one w t, leased-all w ts)

pub shared_numbers_stand_once : SharedNumbersStandOnce
shared_numbers_stand_once all each s ts taken leased w n = omega (
  arith,
  all-granted (is n) w all each,
  leased (is n) w,
  leased-numbers w n ts,
  ranges_stand_once s ts taken w n,
)

pub shared_windows_are_kept : SharedWindowsAreKept
shared_windows_are_kept all each s ts none taken leased g w same = omega (
  arith,
  all-granted (λ _. 1) w all each,
  leased (λ _. 1) w,
  leased-all w ts,
  windows_are_kept s ts none taken g w same,
)
