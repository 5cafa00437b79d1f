-- A retry whose first call a limit admits, or does not.
use Rattle.std.specs.Prelude.{◌≡◌, ℕ, true, Option, Some, None, is_some, IfSome, IfNone, Result}
use Rattle.rand_core.specs.Stream.{Stream}
use Rattle.sched_ticket_draws.specs.Grants.{Grants}
use Rattle.sched_task_law.specs.Kind.{a_retry}
use Rattle.sched_run_machine.specs.Drives.{Driving}
use Rattle.sched_run_machine.specs.Machine.{Machine, begins}
use Rattle.sched_closure.specs.Turns.{calling}
use Rattle.sched_closure.specs.Begins.{Goes}
use Rattle.sched_closure.specs.Endings.{how_of, gave}
use Rattle.sched_closure.specs.declared.endings.CallEnding.{CallEnding}

-- what holds where the limit admits at a moment that the clock tells, and may not hold elsewhere
abbrev pub WhereAdmitted : {D K : Type 0} → Grants D → (K → ℕ → K → Type 0) → D → K → Type 0 → Type 0
WhereAdmitted {D} {K} grants tells limit clock P = (moment : ℕ) (between : K) (asked : D) → tells clock moment between →
    grants.admitted limit moment true asked → P

-- The limit was asked at the moment that the clock told. Where it admitted the first call, a retry with that limit took
-- its turns; where it did not, the retry did not begin, and nothing else was asked.
pub record AsksFirst {R D K C I F : Type 0} (driving : Driving R) (grants : Grants D) (tells : K → ℕ → K → Type 0)
    (waits : K → ℕ → ℕ → K → Type 0) (gives : C → Result I F → C → Type 0) (item_code : I → ℕ) (fault_code : F → ℕ)
    (driver : R) (limit : D) (call : C) (clock : K) (words : Stream) (ending : Option (CallEnding I F))
    (retry : Machine R D) (after : K) (left : Stream) : Type 0 where
  pub moment : ℕ
  pub asked : D
  pub between : K
  pub told : tells clock moment between
  pub admits : grants.admitted limit moment (is_some ending) asked
  pub goes : IfSome ending (λ (e : CallEnding I F). (called : C)
      × Goes grants tells waits gives item_code fault_code driving (a_retry driving.keeps)
      (calling (begins grants driver asked) between words call None)
      (calling retry after left called (Some (gave e))) (how_of e) (gave e))
  pub rests : IfNone ending ((retry ≡ begins grants driver asked) × (after ≡ between) × (left ≡ words))
