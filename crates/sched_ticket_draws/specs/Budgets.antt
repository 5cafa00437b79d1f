-- What contracts see of what draws on a budget, and a draw of it.
use Rattle.std.specs.Prelude.{◌≡◌, ℕ, ◌<◌, Bool, true, false, length, refl}
use Rattle.std.proofs.Common.{inl, inr, arith, ap}
use Rattle.sched_ticket.specs.View.{with_mark}
use Rattle.sched_ticket.specs.Held.{Name, Held, IsOf}
use Rattle.sched_ticket.specs.Whole.{IsOneOfSeveral}
use Rattle.sched_ticket.specs.declared.view.Mark.TheVariants.{Shared}
use Rattle.sched_ticket.specs.Calls.{Drew, DrawRefused}
use Rattle.sched_ticket_draws.specs.Counted.{count_after}
use Rattle.sched_ticket_draws.specs.Grants.{Grants, Lawful, IsAdmitted, IsQuiet, same_still, told_still}

-- a budget, and a pass of it
pub record OfBudget : Type 0 where
  pub pass : Held
  pub budget : Name

-- a draw: the pass gained a ticket, or it was refused
abbrev pub BudgetDrew : OfBudget → Bool → OfBudget → Type 0
BudgetDrew d true e = (e.budget ≡ d.budget) × (k : ℕ) × Drew d.pass.has k e.pass.has
BudgetDrew d false e = (e.budget ≡ d.budget) × DrawRefused d.pass.has e.pass.has

-- a pass is one of several of its budget, and comes back marked so
abbrev pub IsPart : OfBudget → OfBudget → Type 0
IsPart d e =
    IsOneOfSeveral d.budget.terms d.pass.has
    × (e.budget ≡ d.budget) × (e.pass.table ≡ d.pass.table) × (e.pass.has ≡ with_mark d.pass.has Shared)

abbrev pub budget_grants : Grants OfBudget
budget_grants = record {
  Name = Name;
  name = λ d. d.budget;
  granted = λ d. length d.pass.has.tickets;
  admitted = λ d _ got e. IsAdmitted d got e;
  drew = λ d _ got e. BudgetDrew d got e;
  succeeded = λ d _ e. e ≡ d;
  failed = λ d _ _ e. e ≡ d;
  ended = λ d _ e. e ≡ d;
  refused = λ d. 0 < length d.pass.has.refusals;
  stands = λ d. IsOf d.budget d.pass;
}

BudgetDrew-keeps : (d : OfBudget) (got : Bool) (e : OfBudget) → BudgetDrew d got e → e.budget ≡ d.budget
BudgetDrew-keeps d true e drew = drew.0
BudgetDrew-keeps d false e drew = drew.0

BudgetDrew-counts : (d : OfBudget) (got : Bool) (e : OfBudget) → BudgetDrew d got e →
    length e.pass.has.tickets ≡ count_after got (length d.pass.has.tickets)
BudgetDrew-counts d true e drew = rw (drew.2.gained, drew.2.asks.same) (omega arith)
BudgetDrew-counts d false e drew = elim drew.1 [
  | inl before ↦ ap (λ v. length v.tickets) before.2
  | inr now ↦ rw (now.gained, now.asks.same) refl
]

BudgetDrew-denies : (d e : OfBudget) → BudgetDrew d false e → 0 < length e.pass.has.refusals
BudgetDrew-denies d e drew = elim drew.1 [
  | inl before ↦ rw before.2 before.1
  | inr now ↦ rw now.gained (omega arith)
]

pub budget_lawful : Lawful budget_grants
budget_lawful = record {
  keeps = λ d _ got e drew. BudgetDrew-keeps d got e drew;
  counts = λ d _ got e drew. BudgetDrew-counts d got e drew;
  denies = λ d _ e drew. BudgetDrew-denies d e drew;
  admits = λ d _ got e admitted. same_still budget_grants d e admitted.1;
  succeeds = λ d _ e same. told_still budget_grants d e same;
  fails = λ d _ _ e same. told_still budget_grants d e same;
  ends = λ d _ e same. told_still budget_grants d e same;
}

pub budget_quiet : IsQuiet budget_grants
budget_quiet = record {
  succeeds = λ _ _. refl;
  fails = λ _ _ _. refl;
  ends = λ _ _. refl;
}
