-- What the calls on limits do.
use Rattle.std.specs.Prelude.{◌≡◌, ℕ, ◌+◌, ◌≤◌, Result, Ok, Err}
use Rattle.std.specs.Global.{Global}
use Rattle.std_alloc.specs.declared.boxed.Box.{Box}
use Rattle.sched_limit_handle.specs.Held.{count, joined}
use Rattle.sched_limit_handle.specs.declared.held.Held.{Held as AtOnce}
use Rattle.sched_handle.specs.Held.{OtherKind}
use Rattle.sched_handle.specs.declared.held.Held.{Held}
use Rattle.sched_handle.specs.declared.held.Held.TheVariants.{Limits}
use Rattle.sched_handle.specs.declared.status.Status.{Status}

-- a call on what a handle holds does this to its limits; of what is of another kind nothing changes
abbrev pub OnLimits : {A : Type 0} → (AtOnce → A → AtOnce → Type 0) → Held → Result A Status → Held → Type 0
OnLimits does (Limits l) (Ok x) v = (m : Box AtOnce Global) × (v ≡ Limits m) × does l.value x m.value
OnLimits does (Limits l) (Err s) v = ⊥
OnLimits does u r v = OtherKind u r v

-- a handle holds so many limits
abbrev pub CountsLimits : Held → ℕ → Type 0
CountsLimits u n = (l : Box AtOnce Global) × (u ≡ Limits l) × (n ≡ count l.value)

-- the limits of both are at most four
abbrev pub AreFew : Held → Held → Type 0
AreFew u v = (l m : Box AtOnce Global) × (u ≡ Limits l) × (v ≡ Limits m) × (count l.value + count m.value ≤ 4)

-- these limits are joined, those of the first before those of the second
abbrev pub JoinsLimits : Held → Held → Held → Type 0
JoinsLimits u v w = (l m n : Box AtOnce Global) × (u ≡ Limits l) × (v ≡ Limits m) × (w ≡ Limits n)
    × (n.value ≡ joined l.value m.value)
