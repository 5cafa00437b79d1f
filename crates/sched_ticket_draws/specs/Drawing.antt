-- What a retry draws by that is chosen while the program runs, and a draw of it.
use Rattle.std.specs.Prelude.{◌≡◌, ℕ, Bool, false, refl}
use Rattle.std.proofs.Common.{ap}
use Rattle.sched_ticket.specs.Held.{Name as BudgetName}
use Rattle.sched_ticket_quota.specs.Held.{Name as QuotaName}
use Rattle.sched_ticket_draws.specs.Budgets.{OfBudget, budget_grants, budget_lawful}
use Rattle.sched_ticket_draws.specs.Counted.{count_after}
use Rattle.sched_ticket_draws.specs.Freely.{free_grants, free_lawful}
use Rattle.sched_ticket_draws.specs.Grants.{Grants, Lawful, IsSame, IsQuiet, told_still}
use Rattle.sched_ticket_draws.specs.Quotas.{OfQuota, quota_grants, quota_lawful}
use Rattle.sched_ticket_draws.specs.declared.drawing.Drawing.{Drawing}
use Rattle.sched_ticket_draws.specs.declared.drawing.Drawing.TheVariants.{Budget, Quota, Unlimited}

-- what is drawn on: a budget, a quota, or nothing
pub data Source : Type 0 where
  a_budget : BudgetName → Source
  a_quota : QuotaName → Source
  nothing : Source

abbrev pub source_of : Drawing → Source
source_of (Budget d) = a_budget d.budget
source_of (Quota d) = a_quota d.quota
source_of (Unlimited n) = nothing

abbrev pub granted_by : Drawing → ℕ
granted_by (Budget d) = budget_grants.granted d
granted_by (Quota d) = quota_grants.granted d
granted_by (Unlimited n) = free_grants.granted n

-- a draw is one on the same budget or quota, as that says it, or one on nothing
abbrev pub DrawingDrew : Drawing → ℕ → Bool → Drawing → Type 0
DrawingDrew (Budget d) now got v = (e : OfBudget) × (v ≡ Budget e) × budget_grants.drew d now got e
DrawingDrew (Quota d) now got v = (e : OfQuota) × (v ≡ Quota e) × quota_grants.drew d now got e
DrawingDrew (Unlimited n) now got v = (m : ℕ) × (v ≡ Unlimited m) × free_grants.drew n now got m

abbrev pub DrawingAdmitted : Drawing → ℕ → Bool → Drawing → Type 0
DrawingAdmitted (Budget d) now got v = (e : OfBudget) × (v ≡ Budget e) × budget_grants.admitted d now got e
DrawingAdmitted (Quota d) now got v = (e : OfQuota) × (v ≡ Quota e) × quota_grants.admitted d now got e
DrawingAdmitted (Unlimited n) now got v = (m : ℕ) × (v ≡ Unlimited m) × free_grants.admitted n now got m

abbrev pub Refused : Drawing → Type 0
Refused (Budget d) = budget_grants.refused d
Refused (Quota d) = quota_grants.refused d
Refused (Unlimited n) = free_grants.refused n

abbrev pub Stands : Drawing → Type 0
Stands (Budget d) = budget_grants.stands d
Stands (Quota d) = quota_grants.stands d
Stands (Unlimited n) = free_grants.stands n

abbrev pub drawing_grants : Grants Drawing
drawing_grants = record {
  Name = Source;
  name = source_of;
  granted = granted_by;
  admitted = DrawingAdmitted;
  drew = DrawingDrew;
  succeeded = λ d _ e. e ≡ d;
  failed = λ d _ _ e. e ≡ d;
  ended = λ d _ e. e ≡ d;
  refused = Refused;
  stands = Stands;
}

DrawingDrew-keeps : (d : Drawing) (now : ℕ) (got : Bool) (e : Drawing) → DrawingDrew d now got e →
    source_of e ≡ source_of d
DrawingDrew-keeps (Budget d) now got v drew =
    rw drew.1 (ap a_budget (budget_lawful.keeps d now got drew.0 drew.2))
DrawingDrew-keeps (Quota d) now got v drew =
    rw drew.1 (ap a_quota (quota_lawful.keeps d now got drew.0 drew.2))
DrawingDrew-keeps (Unlimited n) now got v drew = rw drew.1 refl

DrawingDrew-counts : (d : Drawing) (now : ℕ) (got : Bool) (e : Drawing) → DrawingDrew d now got e →
    granted_by e ≡ count_after got (granted_by d)
DrawingDrew-counts (Budget d) now got v drew = rw drew.1 (budget_lawful.counts d now got drew.0 drew.2)
DrawingDrew-counts (Quota d) now got v drew = rw drew.1 (quota_lawful.counts d now got drew.0 drew.2)
DrawingDrew-counts (Unlimited n) now got v drew = rw drew.1 (free_lawful.counts n now got drew.0 drew.2)

DrawingDrew-denies : (d : Drawing) (now : ℕ) (e : Drawing) → DrawingDrew d now false e → Refused e
DrawingDrew-denies (Budget d) now v drew = rw drew.1 (budget_lawful.denies d now drew.0 drew.2)
DrawingDrew-denies (Quota d) now v drew = rw drew.1 (quota_lawful.denies d now drew.0 drew.2)
DrawingDrew-denies (Unlimited n) now v drew = rw drew.1 (free_lawful.denies n now drew.0 drew.2)

DrawingAdmitted-same : (d : Drawing) (now : ℕ) (got : Bool) (e : Drawing) → DrawingAdmitted d now got e →
    IsSame drawing_grants d e
DrawingAdmitted-same (Budget d) now got v admitted =
    let same = budget_lawful.admits d now got admitted.0 admitted.2 in
    rw admitted.1 (record { name = ap a_budget same.name; granted = same.granted; stands = same.stands })
DrawingAdmitted-same (Quota d) now got v admitted =
    let same = quota_lawful.admits d now got admitted.0 admitted.2 in
    rw admitted.1 (record { name = ap a_quota same.name; granted = same.granted; stands = same.stands })
DrawingAdmitted-same (Unlimited n) now got v admitted =
    let same = free_lawful.admits n now got admitted.0 admitted.2 in
    rw admitted.1 (record { name = refl; granted = same.granted; stands = same.stands })

pub drawing_lawful : Lawful drawing_grants
drawing_lawful = record {
  keeps = DrawingDrew-keeps;
  counts = DrawingDrew-counts;
  denies = DrawingDrew-denies;
  admits = DrawingAdmitted-same;
  succeeds = λ d _ e same. told_still drawing_grants d e same;
  fails = λ d _ _ e same. told_still drawing_grants d e same;
  ends = λ d _ e same. told_still drawing_grants d e same;
}

pub drawing_quiet : IsQuiet drawing_grants
drawing_quiet = record {
  succeeds = λ _ _. refl;
  fails = λ _ _ _. refl;
  ends = λ _ _. refl;
}
