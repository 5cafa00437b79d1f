-- What contracts see of a retry with a fallback, what is true of it between any two polls, and one poll of it.
use Rattle.std.specs.Prelude.{◌≡◌, ℕ, Bool, true, false, if◌then◌else◌, Option, Some, None, is_some, IsSome, IfSome}
use Rattle.std.specs.Prelude.{refl}
use mathlib.Core.Path.{ap}
use Rattle.std.specs.Bool.{MatchBool}
use Rattle.std.specs.Coded.{Coded, code_by, coded×, coded_ℕ, coded_bool, coded_option}
use Rattle.sched_time.specs.declared.numbers.Tick.{Tick}
use Rattle.sched_plan.specs.Datum.{Datum}
use Rattle.sched_plan.specs.DatumCode.{coded_datum}
use Rattle.sched_ticket_draws.specs.Grants.{Grants}
use Rattle.sched_effect.specs.declared.ran.Ran.{Ran}
use Rattle.sched_effect.specs.declared.ran.Ran.TheVariants.{Lost}
use Rattle.sched_task.specs.declared.endings.How.{How}
use Rattle.sched_task.specs.declared.endings.How.TheVariants as how
use Rattle.sched_task.specs.declared.endings.RunFault.TheVariants.{NoMemory}
use Rattle.sched_task_law.specs.Kind.{a_retry}
use Rattle.sched_task_law.specs.Lists.{last_element}
use Rattle.sched_task_law.specs.Past.{waits_by}
use Rattle.sched_task_law.specs.Law.{is_stop}
use Rattle.sched_task_law.specs.Codes.{coded_ran, coded_how}
use Rattle.sched_run_machine.specs.Drives.{Driving}
use Rattle.sched_run_machine.specs.Retrying.{RetryingOf, coded_retrying, KeepsLaw, TaskPoll, GivesUp as RetryGivesUp}
use Rattle.sched_retry_or.specs.Ending.{RetryOrFits}
use Rattle.sched_retry_or.specs.Stops.{unless_stop}
use Rattle.sched_retry_or.specs.declared.endings.RetryOrEnding.{RetryOrEnding}

-- A retry with a fallback, which is driven by a value of R and draws its tickets by one of D.
pub record Falling (R D : Type 0) : Type 0 where
  -- the retry beneath, which is over where it has stopped
  pub retrying : RetryingOf R D
  -- how it is over: as the retry beneath, or, where that has stopped, as its fallback lets it
  pub over : Option How
  -- its ending was not taken yet
  pub untaken : Bool
  -- what the fallback was asked with last, and its answer
  pub asked : Option (ℕ × Datum)
  pub answered : Option Ran

abbrev pub coded_falling : {R D : Type 0} → Coded R → Coded D → Coded (Falling R D)
coded_falling {R} {D} coded_driver coded_drawing =
    code_by (RetryingOf R D × (Option How × (Bool × (Option (ℕ × Datum) × Option Ran))))
    (coded× (coded_retrying coded_driver coded_drawing) (coded× (coded_option coded_how) (coded× coded_bool
    (coded× (coded_option (coded× coded_ℕ coded_datum)) (coded_option coded_ran)))))
    (λ v. (v.retrying, (v.over, (v.untaken, (v.asked, v.answered)))))
    (λ p. record { retrying = p.0; over = p.1.0; untaken = p.1.1.0; asked = p.1.1.1.0; answered = p.1.1.1.1 })
    (λ _. refl)

-- the moment that it waits for: that of the retry beneath, where it is not over
abbrev pub falls_due : {R D : Type 0} → Driving R → Falling R D → Option ℕ
falls_due driving v =
    if is_some v.over then None else waits_by (driving.starts v.retrying.past.driver) v.retrying.past

pub falls_due-over : {R D : Type 0} (driving : Driving R) (v : Falling R D) → is_some v.over ≡ true →
    falls_due driving v ≡ None
falls_due-over driving v over =
    ap (λ b. if b then None else waits_by (driving.starts v.retrying.past.driver) v.retrying.past) over

module _ {R D : Type 0} (driving : Driving R) (outputs : R → Option Datum) (grants : Grants D) where
  -- the fallback was asked with the code of the last run and the driver's last output
  pub record IsAsked (v : RetryingOf R D) (asked : Option (ℕ × Datum)) : Type 0 where
    pub code : ℕ
    pub output : Datum
    pub last : last_element v.past.runs ≡ Some (Lost code)
    pub given : outputs v.past.driver ≡ Some output
    pub asked_is : asked ≡ Some (code, output)

  -- and it has answered
  pub record HasFallen (v : RetryingOf R D) (asked : Option (ℕ × Datum)) (answered : Option Ran) : Type 0 where
    pub ask : IsAsked v asked
    pub some : IsSome answered

  -- The law of a retry with a fallback: the retry beneath keeps its own.
  pub record FallingLaw (v : Falling R D) : Type 0 where
    pub law : KeepsLaw driving grants (a_retry driving.keeps) v.retrying
    -- it is over as the retry beneath, where that has not stopped
    pub as_beneath : is_stop v.retrying.past.over ≡ false → v.over ≡ v.retrying.past.over
    -- it ends at a stop of the retry beneath only once its fallback has answered
    pub fallen : is_stop v.over ≡ true →
        (v.over ≡ v.retrying.past.over) × HasFallen v.retrying v.asked v.answered
    -- there is an ending to take only where it is over
    pub untaken : v.untaken ≡ true → is_some v.over ≡ true

  -- A poll of the retry beneath, whose ending is taken: the fallback is not asked.
  pub record PollsBeneath (v : Falling R D) (t : Tick) (u : Falling R D) : Type 0 where
    pub polled : RetryingOf R D
    pub poll : TaskPoll driving grants (a_retry driving.keeps) v.retrying t (is_some polled.past.over) polled
    pub leaves : u ≡ record {
      retrying = record polled { untaken = false };
      over = unless_stop polled.past.over;
      untaken = is_some (unless_stop polled.past.over);
      asked = v.asked;
      answered = v.answered;
    }

  -- What the fallback comes to that a poll asks, where the retry beneath has stopped: it has no answer yet; memory is
  -- refused to it; or it has answered, and the retry ends as it had stopped.
  abbrev pub ComesTo : Option How → Falling R D → Falling R D → Type 0
  ComesTo None v u = IsAsked v.retrying u.asked × (u.answered ≡ None) × (u.untaken ≡ v.untaken)
  ComesTo (Some (how.Broken fault)) v u = (fault ≡ NoMemory) × (u.untaken ≡ true)
  ComesTo (Some how) v u =
      (v.retrying.past.over ≡ Some how) × HasFallen v.retrying u.asked u.answered × (u.untaken ≡ true)

  -- What a poll does by how it is over and whether the retry beneath has stopped.
  abbrev pub PollsAs : Option How → Bool → Falling R D → Tick → Falling R D → Type 0
  PollsAs (Some how) stopped v t u = u ≡ v
  PollsAs None false v t u = PollsBeneath v t u
  PollsAs None true v t u = (u.retrying ≡ v.retrying) × ComesTo u.over v u

  -- One poll of a retry with a fallback, exactly.
  pub record FallingPoll (v : Falling R D) (t : Tick) (ready : Bool) (u : Falling R D) : Type 0 where
    pub poll : PollsAs v.over (is_stop v.retrying.past.over) v t u
    pub ready_is : ready ≡ is_some u.over

-- one that is cancelled, with the retry beneath then
abbrev pub given_up : {R D : Type 0} → Falling R D → RetryingOf R D → Falling R D
given_up v retrying = record v { retrying = retrying; over = Some how.Cancelled; untaken = true }

-- One that is not over is cancelled, and so is the retry beneath.
abbrev pub GivesUp : {R D : Type 0} → Grants D → Falling R D → Falling R D → Type 0
GivesUp grants v u =
    MatchBool (is_some v.over) (u ≡ v) (RetryGivesUp grants v.retrying u.retrying × (u ≡ given_up v u.retrying))

-- The failure at which the retry beneath has stopped is kept, with which the fallback is asked; elsewhere none is.
abbrev pub KeepsStop : {R D F : Type 0} → (F → ℕ) → RetryingOf R D → Option F → Type 0
KeepsStop code v None = is_stop v.past.over ≡ false
KeepsStop code v (Some fault) = (is_stop v.past.over ≡ true) × (last_element v.past.runs ≡ Some (Lost (code fault)))

-- What is true of a retry with a fallback, its ending, and the failure that it keeps.
pub record IsFalling {R D I F : Type 0} (driving : Driving R) (outputs : R → Option Datum) (grants : Grants D)
    (item_code : I → ℕ) (fault_code : F → ℕ) (v : Falling R D) (stopped : Option F)
    (ending : Option (RetryOrEnding I F)) : Type 0 where
  pub law : FallingLaw driving outputs grants v
  pub fits : IfSome ending (RetryOrFits item_code fault_code v.over v.retrying.past.runs v.answered)
  pub keeps : KeepsStop fault_code v.retrying stopped
