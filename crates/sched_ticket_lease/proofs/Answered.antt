-- Answers by cases, and what follows from each.
use Rattle.std.proofs.Common.{Bool, true, false}
use Rattle.std.specs.Prelude.{MatchBool, Option, Some, None, is_some, IfSome, IfNone}

pub match-as : (b : Bool) (P Q R S : Type 0) → MatchBool b P Q → (P → R) → (Q → S) → MatchBool b R S
match-as true P Q R S m f g = f m
match-as false P Q R S m f g = g m

pub match-found : {A : Type 0} (o : Option A) (P : A → Type 0) (Q : Type 0) → IfSome o P → IfNone o Q →
    MatchBool (is_some o) ((x : A) × P x) Q
match-found (Some x) P Q some none = (x, some)
match-found None P Q some none = none
