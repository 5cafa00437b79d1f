-- What is played where a storm that is given, with room, is refused.
use Rattle.std.proofs.Common.{◌≡◌, ℕ, List, Result, Ok, Err, refl, sym, subst}
use Rattle.sched_plan.specs.Schedule.{Schedule}
use Rattle.sched_handle.specs.Status.{code_of}
use Rattle.sched_handle.specs.declared.status.Status.{Status}
use Rattle.sched_handle.specs.declared.status.Status.TheVariants as status
use Rattle.sched_storm_call.specs.Plays.{Told, HasRoom, PlaysPlans, IsShort, IsReason}
use Rattle.sched_storm_call.specs.declared.records.SizedStorm.{SizedStorm}

pub refused : (ms : List ℕ) (g : SizedStorm) (t : Told) (given : Result (ℕ → Schedule) Status) (s : Status) →
    HasRoom ms g t →
    given ≡ Err s → IsReason s → PlaysPlans ms g given t (code_of s) t
refused ms g t given status.Empty room is reason = (Err status.Empty, (room, is), (refl, refl))
refused ms g t given status.WrongKind room is reason = (Err status.WrongKind, (room, is), (refl, refl))
refused ms g t given status.NoMemory room is reason =
    (Err status.NoMemory, (room, subst IsShort (sym is) refl), (refl, refl))
refused ms g t given _ room is reason = absurd reason

-- there is no memory for what is made of the plans
pub short : (ms : List ℕ) (g : SizedStorm) (t : Told) (given : Result (ℕ → Schedule) Status) (plans : ℕ → Schedule) →
    HasRoom ms g t →
    given ≡ Ok plans → PlaysPlans ms g given t (code_of status.NoMemory) t
short ms g t given plans room are = (Err status.NoMemory, (room, subst IsShort (sym are) tt), (refl, refl))
