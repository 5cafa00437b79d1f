-- What the calls on a pass do, whatever it is of.
use Rattle.std.specs.Prelude.{◌≡◌, ℕ, ◌+◌, Bool, true, false, min, length}
use Rattle.sched_ticket.specs.View.{joined_view}
use Rattle.sched_ticket.specs.Whole.{IsWhole}
use Rattle.sched_ticket_quota.specs.Calls as quota
use Rattle.sched_ticket_quota.specs.Whole as quota_whole
use Rattle.sched_ticket_draws.specs.Budgets.{OfBudget, IsPart}
use Rattle.sched_ticket_draws.specs.Quotas.{OfQuota}
use Rattle.sched_ticket_draws.specs.Quotas as quota_draws
use Rattle.sched_ticket_draws.specs.declared.drawing.Drawing.{Drawing}
use Rattle.sched_ticket_draws.specs.declared.drawing.Drawing.TheVariants.{Budget, Quota, Unlimited}

-- a pass of the same budget, and one of the same quota, of which this is true
abbrev pub SameBudget : OfBudget → Drawing → (OfBudget → Type 0) → Type 0
SameBudget s v P = (t : OfBudget) × (v ≡ Budget t) × (t.budget ≡ s.budget) × P t

abbrev pub SameQuota : OfQuota → Drawing → (OfQuota → Type 0) → Type 0
SameQuota s v P = (t : OfQuota) × (v ≡ Quota t) × (t.quota ≡ s.quota) × P t

-- both are passes of budgets, or of quotas, or draw on nothing
abbrev pub are_like : Drawing → Drawing → Bool
are_like (Budget s) (Budget t) = true
are_like (Quota s) (Quota t) = true
are_like (Unlimited n) (Unlimited m) = true
are_like d e = false

-- of two budgets or quotas it is the same one
abbrev pub OfOne : Drawing → Drawing → Type 0
OfOne (Budget s) (Budget t) = t.budget ≡ s.budget
OfOne (Quota s) (Quota t) = t.quota ≡ s.quota
OfOne d e = Unit {0}

-- one pass has what both had
abbrev pub Joined : Drawing → Drawing → Drawing → Type 0
Joined (Budget s) (Budget t) v = SameBudget s v (λ x. x.pass.has ≡ joined_view s.pass.has t.pass.has)
Joined (Quota s) (Quota t) v = SameQuota s v (λ x. quota.Joined s.pass t.pass x.pass)
Joined (Unlimited n) (Unlimited m) v = v ≡ Unlimited (min (n + m) 18446744073709551615)
Joined d e v = ⊥

-- so many tickets were drawn of what a pass draws on, of which it has all parts
abbrev pub IsTotal : Drawing → ℕ → Type 0
IsTotal (Budget s) n = (n ≡ length s.pass.has.tickets) × IsWhole s.budget.terms s.pass.has
IsTotal (Quota s) n = (n ≡ length s.pass.has.tickets) × quota_whole.IsWhole s.quota.terms s.pass.has
IsTotal (Unlimited m) n = n ≡ m

-- it has not, and is left so
abbrev pub NoTotal : Drawing → Drawing → Type 0
NoTotal (Budget s) v = (t : OfBudget) × (v ≡ Budget t) × IsPart s t
NoTotal (Quota s) v = (t : OfQuota) × (v ≡ Quota t) × quota_draws.IsPart s t
NoTotal (Unlimited n) v = ⊥
