-- What came of calls: of a machine that was made for them, and where none was.
use Rattle.std.specs.Prelude.{◌≡◌, ℕ, Bool, false, true, List, [], ◌∷◌, Option, Some, Result, Ok, Err}
use Rattle.std.specs.List.{FoldsTo}
use Rattle.sched_time.specs.declared.numbers.Tick.{Tick}
use Rattle.sched_plan.specs.Schedule.{Schedule}
use Rattle.sched_ticket_draws.specs.Grants.{Grants}
use Rattle.sched_effect.specs.declared.ran.Ran.TheVariants.{Won}
use Rattle.sched_task.specs.declared.endings.How.{How}
use Rattle.sched_task.specs.declared.endings.How.TheVariants as how
use Rattle.sched_task.specs.declared.endings.RunFault.TheVariants.{NoMemory}
use Rattle.sched_task_law.specs.Kind.{Kind, a_retry}
use Rattle.sched_task_law.specs.Past.{unstepped}
use Rattle.sched_run_machine.specs.Drives.{Driving}
use Rattle.sched_run_machine.specs.Retrying.{Retrying, RetryLaw, HostPoll}
use Rattle.sched_run_machine.specs.Machine.{Machine, unbegun, IsMachineOf}
use Rattle.sched_closure.specs.Turns.{Calling, calling, Turn}
use Rattle.sched_closure.specs.Calls.{task_turning}
use Rattle.sched_closure.specs.Endings.{EndsWith}
use Rattle.sched_closure.specs.declared.endings.CallEnding.{CallEnding}
use Rattle.sched_closure.specs.declared.endings.CallEnding.TheVariants as call

module _ {D : Type 0} (grants : Grants D) where
  -- a retry that has not begun, by whatever plan and deadline, and whatever it draws by
  abbrev pub HasNotBegun : Retrying D → Type 0
  HasNotBegun v = (plan : Schedule) × (deadline : Option ℕ) × (drawing : D) × grants.stands drawing
      × (v ≡ unbegun grants plan deadline drawing)

  -- a retry with one run, which began at this moment and won
  abbrev pub won_once : Schedule → Option ℕ → D → ℕ → ℕ → Retrying D
  won_once plan deadline drawing moment code = record {
    past = record {
      driver = unstepped plan;
      deadline = deadline;
      runs = Won code ∷ [];
      begun = moment ∷ [];
      over = Some how.Won;
      denied = false;
      granted = 0;
    };
    drawing = drawing;
    had = grants.granted drawing;
    untaken = true;
  }

  -- Of a retry that has not begun this is what two polls leave, whatever their words: one begins a run at the moment,
  -- and in the other that run wins. It keeps the law of retries.
  pub record WinsOnce (keeps : Bool) (plan : Schedule) (deadline : Option ℕ) (drawing : D)
      (moment code : ℕ) : Type 0 where
    pub running : Retrying D
    pub begins : (words : List ℕ) → HostPoll grants (a_retry keeps) (unbegun grants plan deadline drawing)
        (record { now = moment; words = words }) [] running
    pub wins : (tick : Tick) →
        HostPoll grants (a_retry keeps) running tick (Won code ∷ []) (won_once plan deadline drawing moment code)
    pub law : RetryLaw grants (a_retry keeps) (won_once plan deadline drawing moment code)

module _ {D K C I F : Type 0} (grants : Grants D) (tells : K → ℕ → K → Type 0) (waits : K → ℕ → ℕ → K → Type 0)
    (gives : C → Result I F → C → Type 0) (item_code : I → ℕ) (fault_code : F → ℕ) where
  -- Each of these tasks took these turns, by the same ticks. It is over so, its last run gave this, and it is left as
  -- one of those.
  pub record TakesTurns {T : Type 0} (kind : Kind) (these those : Retrying D → Type 0)
      (s n : Calling T K C (Result I F)) (how : How) (outcome : Result I F) : Type 0 where
    pub ticks : List Tick
    pub leads : (v : Retrying D) → these v → (u : Retrying D)
        × FoldsTo (Turn (task_turning grants kind) tells waits gives item_code fault_code)
        (calling v s.clock s.words s.call s.last) ticks (calling u n.clock n.words n.call n.last)
        × EndsWith item_code fault_code u.past.over u.past.runs how outcome
        × those u

  -- Each retry, or each repeat, that the machine may stand for in the beginning took these turns, and is one that it
  -- may stand for in the end.
  pub record Goes {R : Type 0} (driving : Driving R) (kind : Kind) (s n : Calling (Machine R D) K C (Result I F))
      (how : How) (outcome : Result I F) : Type 0 where
    pub turns : TakesTurns kind (IsMachineOf driving kind grants s.task) (IsMachineOf driving kind grants n.task) s n
        how outcome
    -- it goes by its plan and its deadline from the beginning
    pub begins : IsMachineOf driving kind grants s.task
        (unbegun grants (driving.plan s.task.driver) (driving.ends s.task.driver) s.task.drawing)
    pub deadline : driving.ends n.task.driver ≡ driving.ends s.task.driver
    -- it draws on the same budget as in the beginning
    pub budget : grants.name n.task.drawing ≡ grants.name s.task.drawing

  module _ {T : Type 0} (keeps : Bool) where
    -- The first call succeeded: the clock was asked before it, no word was drawn and nothing made, and a retry that had
    -- not begun won.
    pub record WonAtOnce (s n : Calling T K C (Result I F)) (item : I) : Type 0 where
      pub moment : ℕ
      pub told : tells s.clock moment n.clock
      pub words : n.words ≡ s.words
      pub nothing : n.task ≡ s.task
      pub calls : gives s.call (Ok item) n.call
      pub wins : (plan : Schedule) (deadline : Option ℕ) (drawing : D) → grants.stands drawing →
          WinsOnce grants keeps plan deadline drawing moment (item_code item)

    -- Where no machine was made, the first call succeeded, or it failed, and turns broke each retry that had not begun:
    -- the machine was refused.
    abbrev pub EndsUnbegun : Type 0 → Calling T K C (Result I F) → Calling T K C (Result I F) → CallEnding I F → Type 0
    EndsUnbegun refused s n (call.Won item) = WonAtOnce s n item
    EndsUnbegun refused s n (call.Broken NoMemory fault) =
        refused × TakesTurns (a_retry keeps) (HasNotBegun grants) (RetryLaw grants (a_retry keeps)) s n
        (how.Broken NoMemory) (Err fault)
    EndsUnbegun refused s n _ = ⊥
