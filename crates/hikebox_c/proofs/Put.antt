-- What is put into a handle that holds nothing.
use Rattle.std.proofs.Common.{◌≡◌, ℕ, false, sym, subst}
use Rattle.std.specs.Prelude.{Option, Result, is_some, MatchBool}
use Rattle.std.specs.Global.{Global}
use Rattle.std_alloc.specs.declared.boxed.Box.{Box}
use Rattle.sched_limit_handle.specs.declared.held.Held.{Held as AtOnce}
use Rattle.sched_limit_handle.specs.declared.status.Status.{Status as Reason}
use Rattle.sched_handle.specs.Status.{code_of}
use Rattle.sched_handle.specs.declared.held.Held.{Held}
use Rattle.sched_handle.specs.declared.status.Status.TheVariants.{Full}
use Rattle.hikebox_c.specs.Limits.{MakesLimit, PutsLimits}

-- where the handle was empty, what was made is put into it
pub put_in : (made : Result (Box AtOnce Global) Reason → Type 0) (u t v : Option Held) (code : ℕ)
    (r : Result (Box AtOnce Global) Reason) → is_some u ≡ false → t ≡ u → made r → PutsLimits r t code v
    → MakesLimit made u code v
put_in made u t v code r empty same is puts = subst (λ b. MatchBool b ((v ≡ u) × (code ≡ code_of Full))
    ((r : Result (Box AtOnce Global) Reason) × made r × PutsLimits r u code v)) (sym empty)
    (r, is, subst (λ (w : Option Held). PutsLimits r w code v) same puts)
