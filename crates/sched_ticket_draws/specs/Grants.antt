-- What is said of a value that tickets are drawn by, whatever budget or limit it draws on.
use Rattle.std.specs.Prelude.{◌≡◌, ℕ, Bool, true, false}
use Rattle.std.proofs.Common.{sym, ap, subst}
use Rattle.sched_ticket_draws.specs.Counted.{count_after}

-- What a value grants, and what a call of it does.
pub record Grants (D : Type 0) : Type 1 where
  -- which budget it draws on
  pub Name : Type 0
  pub name : D → Name
  -- how many tickets it was granted so far, for earlier retries too
  pub granted : D → ℕ
  -- of it before a request's first run is asked for, the moment, whether that may be made, and of it after that
  pub admitted : D → ℕ → Bool → D → Type 0
  -- of it before a draw, the moment, whether a ticket was granted, and of it after the draw
  pub drew : D → ℕ → Bool → D → Type 0
  -- of it before it is told of a success at a moment, and after
  pub succeeded : D → ℕ → D → Type 0
  -- of a failure with a code
  pub failed : D → ℕ → ℕ → D → Type 0
  -- that the request is over, whose next run was to be made and was not begun, or not
  pub ended : D → Bool → D → Type 0
  -- why its last draw was refused
  pub refused : D → Type 0
  -- what holds of it at any time
  pub stands : D → Type 0

module _ {D : Type 0} (grants : Grants D) where
  -- It draws on the same budget, was granted as many tickets, and stands where it stood.
  pub record IsSame (d e : D) : Type 0 where
    pub name : grants.name e ≡ grants.name d
    pub granted : grants.granted e ≡ grants.granted d
    pub stands : grants.stands d → grants.stands e

  -- And where it was refused it still says why.
  pub record IsTold (d e : D) : Type 0 where
    pub same : IsSame d e
    pub refused : grants.refused d → grants.refused e

-- The law of each call.
pub record Lawful {D : Type 0} (grants : Grants D) : Type 0 where
  -- it draws on the same budget as before
  pub keeps : (d : D) (now : ℕ) (got : Bool) (e : D) → grants.drew d now got e → grants.name e ≡ grants.name d
  -- it was granted one more, or it was refused
  pub counts : (d : D) (now : ℕ) (got : Bool) (e : D) → grants.drew d now got e →
      grants.granted e ≡ count_after got (grants.granted d)
  -- where it was refused, it says why
  pub denies : (d : D) (now : ℕ) (e : D) → grants.drew d now false e → grants.refused e
  -- no other call changes what it was granted
  pub admits : (d : D) (now : ℕ) (got : Bool) (e : D) → grants.admitted d now got e → IsSame grants d e
  pub succeeds : (d : D) (now : ℕ) (e : D) → grants.succeeded d now e → IsTold grants d e
  pub fails : (d : D) (now code : ℕ) (e : D) → grants.failed d now code e → IsTold grants d e
  pub ends : (d : D) (unused : Bool) (e : D) → grants.ended d unused e → IsTold grants d e

-- a request is admitted, and nothing changes
abbrev pub IsAdmitted : {D : Type 0} → D → Bool → D → Type 0
IsAdmitted d got e = (got ≡ true) × (e ≡ d)

-- It is as it was where it is told how a request went.
pub record IsQuiet {D : Type 0} (grants : Grants D) : Type 0 where
  pub succeeds : (d : D) (now : ℕ) → grants.succeeded d now d
  pub fails : (d : D) (now code : ℕ) → grants.failed d now code d
  pub ends : (d : D) (unused : Bool) → grants.ended d unused d

-- what is as it was is the same
pub same_still : {D : Type 0} (grants : Grants D) (d e : D) → e ≡ d → IsSame grants d e
same_still grants d e same = record {
  name = ap grants.name same;
  granted = ap grants.granted same;
  stands = subst grants.stands (sym same);
}

pub told_still : {D : Type 0} (grants : Grants D) (d e : D) → e ≡ d → IsTold grants d e
told_still grants d e same = record {
  same = same_still grants d e same;
  refused = subst grants.refused (sym same);
}
