-- All requests by the rates are those whose own moment lies before the end of the seconds.
use Rattle.std.proofs.Common.{◌≡◌, ℕ, ◌*◌, ◌<◌, ◌↔◌, subst, sym}
use Rattle.sched_storm.specs.Rates.{phases_of, arrives}
use Rattle.sched_storm.specs.Parameters.{RequestsAreInRange, requests_by_rate}
use Rattle.sched_storm.specs.declared.parameters.Parameters.{Parameters}
use Rattle.sched_storm.proofs.Arrivals.{few_before}
use Rattle.sched_storm.proofs.storm.Storm.requests_by_rate.Goals as goal

-- a request comes by the rates exactly where its own moment lies before the end
abbrev IsOf : ℕ → ℕ → Parameters → Type 0
IsOf r n p = (r < n) ↔ (arrives p.rate 0 (phases_of p.rates) (r * 1000) < p.seconds * 1000)

are_before : (p : Parameters) (n r : ℕ) → RequestsAreInRange p → n ≡ requests_by_rate p → IsOf r n p
are_before p n r ok is =
    subst (λ m. IsOf r m p) (sym is)
    (few_before p.rate (phases_of p.rates) (p.seconds * 1000) r ok.some ok.rates.in_order)

pub returns-clause-before : goal.returns-clause-before
returns-clause-before c r =
    let s = c.self.inside in
    let ok = c.self.invariant in
    subst (IsOf r s.requests) c.self.view_is (are_before s.parameters s.requests r ok.0.requests ok.1)
