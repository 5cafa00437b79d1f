-- A draw on no budget.
use Rattle.std.specs.Prelude.{◌≡◌, ℕ, ◌+◌, ◌<◌, Bool, true, false, ⊤, refl}
use Rattle.sched_ticket_draws.specs.Counted.{count_after}
use Rattle.sched_ticket_draws.specs.Grants.{Grants, Lawful, IsAdmitted, IsQuiet, same_still, told_still}

-- a draw on no budget is granted, and refused only where 18446744073709551615 were granted
abbrev pub FreelyDrew : ℕ → Bool → ℕ → Type 0
FreelyDrew n true m = (n < 18446744073709551615) × (m ≡ n + 1)
FreelyDrew n false m = (n ≡ 18446744073709551615) × (m ≡ n)

abbrev pub free_grants : Grants ℕ
free_grants = record {
  Name = ⊤;
  name = λ _. tt;
  granted = λ n. n;
  admitted = λ d _ got e. IsAdmitted d got e;
  drew = λ n _ got m. FreelyDrew n got m;
  succeeded = λ d _ e. e ≡ d;
  failed = λ d _ _ e. e ≡ d;
  ended = λ d _ e. e ≡ d;
  refused = λ n. n ≡ 18446744073709551615;
  stands = λ _. ⊤;
}

FreelyDrew-counts : (n : ℕ) (got : Bool) (m : ℕ) → FreelyDrew n got m → m ≡ count_after got n
FreelyDrew-counts n true m drew = drew.1
FreelyDrew-counts n false m drew = drew.1

FreelyDrew-denies : (n m : ℕ) → FreelyDrew n false m → m ≡ 18446744073709551615
FreelyDrew-denies n m drew = rw drew.1 drew.0

pub free_lawful : Lawful free_grants
free_lawful = record {
  keeps = λ _ _ _ _ _. refl;
  counts = λ n _ got m drew. FreelyDrew-counts n got m drew;
  denies = λ n _ m drew. FreelyDrew-denies n m drew;
  admits = λ d _ got e admitted. same_still free_grants d e admitted.1;
  succeeds = λ d _ e same. told_still free_grants d e same;
  fails = λ d _ _ e same. told_still free_grants d e same;
  ends = λ d _ e same. told_still free_grants d e same;
}

pub free_quiet : IsQuiet free_grants
free_quiet = record {
  succeeds = λ _ _. refl;
  fails = λ _ _ _. refl;
  ends = λ _ _. refl;
}
