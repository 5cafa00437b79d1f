-- What is out, where spans may be forgotten.
use Rattle.std.proofs.Common.{◌≡◌, ℕ, ◌≤◌, List, inl, inr, arith}
use Rattle.sched_ticket_lease.specs.Spans.{weight}
use Rattle.sched_ticket_lease.specs.Holders.{Remembers}
use Rattle.sched_ticket_lease.specs.declared.span.Span.{Span}

module _ (weighs : (ℕ → ℕ) → ℕ) (floor : ℕ) (out : List Span) (after : ℕ) where
  -- it weighs no more
  pub remembers-less : (q : ℕ → ℕ) → Remembers weighs floor out after → weight q out ≤ weighs q
  remembers-less q (inl r) = omega (arith, r.0 q)
  remembers-less q (inr r) = omega (arith, r.1 q)

  -- the same in other words
  pub remembers-as : (others : (ℕ → ℕ) → ℕ) → ((q : ℕ → ℕ) → weighs q ≡ others q) → Remembers weighs floor out after →
      Remembers others floor out after
  remembers-as others same (inl r) = inl (λ q. omega (arith, r.0 q, same q), r.1)
  remembers-as others same (inr r) = inr (r.0, λ q. omega (arith, r.1 q, same q), r.2, r.3)
