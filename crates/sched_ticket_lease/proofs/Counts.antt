-- What a store has of a window, by cases, and what more requests allow.
use Rattle.std.proofs.Common.{◌≡◌, ℕ, ◌<◌, ◌≤◌, ◌≢◌, min, cond, ap, arith, lt-ltb, le-ltb, eq-eqb, ne_eqb}
use Rattle.std.specs.Prelude.{if◌then◌else◌, ◌==◌}
use Rattle.sched_ticket_quota.proofs.Numbers.{allowed-mono}
use Rattle.sched_ticket_lease.specs.Leases.{allows, given_of, asked_of}
use Rattle.sched_ticket_lease.specs.declared.lease.Grants.{Grants}
use Rattle.sched_ticket_lease.specs.declared.lease.Grants.TheVariants.{Budget, Quota}
use Rattle.sched_ticket_lease.specs.declared.lease.Stored.{Stored}

module _ (s : Stored) (w : ℕ) where
  pub given-anew : s.window < w → given_of s w ≡ 0
  given-anew lt = ap (λ b. cond b 0 s.given) (lt-ltb s.window w lt)

  pub given-on : w ≤ s.window → given_of s w ≡ s.given
  given-on le = ap (λ b. cond b 0 s.given) (le-ltb s.window w le)

  pub asked-anew : s.window < w → asked_of s w ≡ 0
  asked-anew lt = ap (λ b. cond b 0 s.asked) (lt-ltb s.window w lt)

  pub asked-on : w ≤ s.window → asked_of s w ≡ s.asked
  asked-on le = ap (λ b. cond b 0 s.asked) (le-ltb s.window w le)

-- what counts in one window alone
pub of-same : (a w x : ℕ) → a ≡ w → (if a == w then x else 0) ≡ x
of-same a w x e = ap (λ b. cond b x 0) (eq-eqb a w e)

pub of-other : (a w x : ℕ) → a ≢ w → (if a == w then x else 0) ≡ 0
of-other a w x ne = ap (λ b. cond b x 0) (ne_eqb a w ne)

-- more requests allow no fewer tickets
pub allows-mono : (g : Grants) (n m : ℕ) → n ≤ m → allows g n ≤ allows g m
allows-mono (Budget limit) n m le = omega arith
allows-mono (Quota k) n m le = allowed-mono k (min n 4294967296) (min m 4294967296) (omega arith)
