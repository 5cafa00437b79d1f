-- What a driver plans.
use Rattle.std.proofs.Common.{◌≡◌, ℕ, ◌≤◌, Option, IfSome, sym, subst, arith}
use Rattle.sched_time.specs.Decision.{start_of}
use Rattle.sched_time.specs.declared.starts.Decision.{Decision}
use Rattle.sched_time.specs.declared.starts.Decision.TheVariants.{Go, Done}
use Rattle.sched_plan.specs.Starts.{StartsBy}

-- it plans nothing before its last event
pub starts_after : (now floor : ℕ) (d : Decision) (o : Option ℕ) → StartsBy now d → o ≡ start_of d → floor ≡ now →
    IfSome o (λ s. floor ≤ s)
starts_after now floor (Go start) o h e f = subst (λ (o : Option ℕ). IfSome o (λ s. floor ≤ s)) (sym e) (omega arith)
starts_after now floor Done o h e f = subst (λ (o : Option ℕ). IfSome o (λ s. floor ≤ s)) (sym e) tt
