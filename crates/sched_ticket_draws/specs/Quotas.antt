-- What contracts see of what draws on a quota, and a draw of it.
use Rattle.std.specs.Prelude.{◌≡◌, ℕ, ◌<◌, Bool, true, false, Some, length, refl}
use Rattle.std.proofs.Common.{inl, inr, arith, ap, subst, sym}
use Rattle.sched_ticket.specs.Parts.{all_parts}
use Rattle.sched_ticket_quota.specs.Held.{Name, Held, IsOf}
use Rattle.sched_ticket_quota.specs.Calls.{Turned, Deposited, Drew, DrawRefused, IsWhy}
use Rattle.sched_ticket_quota.specs.declared.fault.Refusal.{Refusal}
use Rattle.sched_ticket_quota.specs.declared.view.View.{View}
use Rattle.sched_ticket_draws.specs.Counted.{count_after}
use Rattle.sched_ticket_draws.specs.Grants.{Grants, Lawful, IsSame, IsQuiet, told_still}

-- a quota, and a pass of it
pub record OfQuota : Type 0 where
  pub pass : Held
  pub quota : Name

-- a draw at a moment: the pass gained a ticket of the moment's window or of a later one, which it may hand back, or it
-- was refused for a reason
abbrev pub QuotaDrew : OfQuota → ℕ → Bool → OfQuota → Type 0
QuotaDrew d now true e = (e.quota ≡ d.quota)
    × (t : ℕ) × Drew d.quota now d.pass.has t e.pass.has × (e.pass.latest ≡ Some t)
QuotaDrew d now false e = (e.quota ≡ d.quota)
    × (why : Refusal) × DrawRefused d.quota now d.pass.has why e.pass.has × (e.pass.latest ≡ d.pass.latest)

-- a request is admitted, and counted
abbrev pub QuotaAdmitted : OfQuota → ℕ → Bool → OfQuota → Type 0
QuotaAdmitted d now got e = (got ≡ true) × (e.quota ≡ d.quota)
    × Deposited d.quota now d.pass.has e.pass.has
    × (e.pass.has.tickets ≡ d.pass.has.tickets) × (e.pass.latest ≡ d.pass.latest) × IsOf e.quota e.pass

-- a pass has less than all parts of its quota, and comes back as it was
abbrev pub IsPart : OfQuota → OfQuota → Type 0
IsPart d e = (d.pass.has.weight < all_parts) × (e ≡ d)

-- why the last draw was refused: the tickets of the latest window were out, or it lost 64 races with other draws
abbrev pub NoneLeft : Name → View → Type 0
NoneLeft b v = (why : Refusal) × IsWhy b v why

abbrev pub quota_grants : Grants OfQuota
quota_grants = record {
  Name = Name;
  name = λ d. d.quota;
  granted = λ d. length d.pass.has.tickets;
  admitted = QuotaAdmitted;
  drew = QuotaDrew;
  succeeded = λ d _ e. e ≡ d;
  failed = λ d _ _ e. e ≡ d;
  ended = λ d _ e. e ≡ d;
  refused = λ d. NoneLeft d.quota d.pass.has;
  stands = λ d. IsOf d.quota d.pass;
}

-- a pass that comes to a window keeps its tickets
Turned-tickets : (b : Name) (now : ℕ) (v u : View) → Turned b now v u → u.tickets ≡ v.tickets
Turned-tickets b now v u turned = elim turned [
  | inl there ↦ ap (λ (v : View). v.tickets) there.1
  | inr comes ↦ elim comes [
    | inl meets ↦ ap (λ (v : View). v.tickets) meets.3
    | inr opens ↦ ap (λ (v : View). v.tickets) opens.5
  ]
]

QuotaDrew-keeps : (d : OfQuota) (now : ℕ) (got : Bool) (e : OfQuota) → QuotaDrew d now got e → e.quota ≡ d.quota
QuotaDrew-keeps d now true e drew = drew.0
QuotaDrew-keeps d now false e drew = drew.0

QuotaDrew-counts : (d : OfQuota) (now : ℕ) (got : Bool) (e : OfQuota) → QuotaDrew d now got e →
    length e.pass.has.tickets ≡ count_after got (length d.pass.has.tickets)
QuotaDrew-counts d now true e drew =
    let won = drew.2.2 in
    let kept = Turned-tickets d.quota now d.pass.has drew.2.0 drew.2.1 in
    rw (won.gained, won.tries.same, kept) (omega arith)
QuotaDrew-counts d now false e drew =
    let kept = Turned-tickets d.quota now d.pass.has drew.2.0 drew.2.1 in
    rw (drew.2.2.tries.same, kept) refl

QuotaDrew-denies : (d : OfQuota) (now : ℕ) (e : OfQuota) → QuotaDrew d now false e →
    NoneLeft e.quota e.pass.has
QuotaDrew-denies d now e drew =
    (drew.1, subst (λ (q : Name). IsWhy q e.pass.has drew.1) (sym drew.0) drew.2.2.reason)

QuotaAdmitted-same : (d : OfQuota) (now : ℕ) (got : Bool) (e : OfQuota) → QuotaAdmitted d now got e →
    IsSame quota_grants d e
QuotaAdmitted-same d now got e admitted = record {
  name = admitted.1;
  granted = ap length admitted.3;
  stands = λ _. admitted.5;
}

pub quota_lawful : Lawful quota_grants
quota_lawful = record {
  keeps = QuotaDrew-keeps;
  counts = QuotaDrew-counts;
  denies = QuotaDrew-denies;
  admits = QuotaAdmitted-same;
  succeeds = λ d _ e same. told_still quota_grants d e same;
  fails = λ d _ _ e same. told_still quota_grants d e same;
  ends = λ d _ e same. told_still quota_grants d e same;
}

pub quota_quiet : IsQuiet quota_grants
quota_quiet = record {
  succeeds = λ _ _. refl;
  fails = λ _ _ _. refl;
  ends = λ _ _. refl;
}
