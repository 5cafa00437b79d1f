-- Small facts of the fields of a task.
use Rattle.std.proofs.Common.{◌≡◌, false, Option, Some, None, is_some, refl}

pub none_of : {A : Type 0} (o : Option A) → is_some o ≡ false → o ≡ None
none_of None none = refl
none_of (Some x) none = absurd (cc)
