-- What filling and freeing a handle does, and asking it for a policy.
use Rattle.std.specs.Prelude.{◌≡◌, ◌≢◌, ◌⊎◌, ℕ, Option, Some, None, Result, Ok, Err}
use Rattle.std.specs.Global.{Global}
use Rattle.std_alloc.specs.declared.boxed.Box.{Box}
use Rattle.sched_handle.specs.Status.{code_of}
use Rattle.sched_handle.specs.Held.{kind_of, Wants}
use Rattle.sched_handle.specs.declared.held.Held.{Held}
use Rattle.sched_handle.specs.declared.held.Kind.{Kind}
use Rattle.sched_handle.specs.declared.held.Kind.TheVariants as kind
use Rattle.sched_handle.specs.declared.status.Status.{Status}
use Rattle.sched_handle.specs.declared.status.Status.TheVariants.{Empty}

-- what was made is put in, or the reason is told
abbrev pub Fills : Result (Box Held Global) Status → Option Held → ℕ → Option Held → Type 0
Fills (Ok b) u code v = (v ≡ Some b.value) × (code ≡ 0)
Fills (Err s) u code v = (v ≡ u) × (code ≡ code_of s)

-- what a handle holds is freed where it is of this kind
abbrev pub Frees : Kind → Option Held → ℕ → Option Held → Type 0
Frees k None code v = (v ≡ None) × (code ≡ 1)
Frees k (Some u) code v =
    ((kind_of u ≡ k) × (v ≡ None) × (code ≡ 0)) ⊎ ((kind_of u ≢ k) × (v ≡ Some u) × (code ≡ 2))

-- no policy is had of a handle, for this reason
abbrev pub HasNoPolicy : Option Held → Status → Type 0
HasNoPolicy None s = s ≡ Empty
HasNoPolicy (Some u) s = Wants kind.Policy u s
