-- What contracts see of a type that drives tasks, and one step of a driver, of each journal that it may stand for.
use Rattle.std.specs.Prelude.{◌≡◌, ℕ, Bool, true, false, List, [], Option, None, refl}
use Rattle.std.specs.Coded.{Coded, code_by, coded×, coded_ℕ, coded_option}
use mathlib.Core.Path.{ap, ◌∙◌}
use Rattle.sched_time.specs.declared.numbers.Tick.{Tick}
use Rattle.sched_plan.specs.Datum.{num}
use Rattle.sched_plan.specs.Schedule.{Schedule}
use Rattle.sched_plan.specs.declared.history.Event.{Event}
use Rattle.sched_step.specs.StateOf.{event_of}
use Rattle.sched_driver.specs.Driven.{Driven, next_start_of, after}
use Rattle.sched_driver_stepper.specs.Standing.{Standing, standing_after, StandsFor}
use Rattle.sched_task.specs.declared.endings.RunFault.{RunFault}
use Rattle.sched_task_law.specs.Deadline.{in_time, earlier}
use Rattle.sched_task_law.specs.Past.{unstepped, schedule_is_done}
use Rattle.sched_task_law.specs.Poll.{RoomIn, RefusedIn}

pub record Driving (R : Type 0) : Type 1 where
  -- whether its journal is kept, which then has room for 65,536 events
  pub keeps : Bool
  -- whether a driver may stand for this plan and this journal of its steps
  pub stands : R → Driven → Type 0
  -- the moment past which it plans no start, if there is one
  pub ends : R → Option ℕ
  -- the start that it planned last, by its deadline
  pub starts : R → Option ℕ
  -- its plan
  pub plan : R → Schedule
  -- whether it has made no step
  pub fresh : R → Type 0

-- the journal with the step of a run of this code
abbrev pub with_code : Driven → Tick → ℕ → Driven
with_code d t code = after d (event_of t (num code))

module _ {R : Type 0} (driving : Driving R) where
  -- There was room for the step, the driver stands for the journal with it, and the schedule is done there by this
  -- deadline or not.
  pub record SteppedOn (deadline : Option ℕ) (d : Driven) (t : Tick) (code : ℕ) (done : Bool) (new : R) : Type 0 where
    pub room : RoomIn driving.keeps d t.now
    pub stands_on : driving.stands new (with_code d t code)
    pub done_is : schedule_is_done deadline (with_code d t code) ≡ done

  -- a step, whichever journal it was
  abbrev pub Stepped : R → Tick → ℕ → Bool → R → Type 0
  Stepped old t code done new =
      (d : Driven) → driving.stands old d → SteppedOn (driving.ends old) d t code done new

  -- and one that was refused
  abbrev pub Refused : R → Tick → RunFault → Type 0
  Refused old t fault = (d : Driven) → driving.stands old d → RefusedIn driving.keeps d t.now fault

-- a driver with its journal stands for that alone
abbrev pub by_driver : Driving Driven
by_driver = record {
  keeps = true;
  stands = λ v d. v ≡ d;
  ends = λ _. None;
  starts = next_start_of;
  plan = λ v. v.plan;
  fresh = λ v. v.journal ≡ [];
}

pub unstepped_driver : (d : Driven) → d.journal ≡ [] → d ≡ unstepped d.plan
unstepped_driver d none = ap (λ (journal : List Event). record { plan = d.plan; journal = journal }) none

-- A stepper stands for each journal of its plan that may have led to what it keeps.
abbrev pub IsStepped : Standing → Driven → Type 0
IsStepped v d = (v.plan ≡ d.plan) × StandsFor v d.journal

abbrev pub by_stepper : Driving Standing
by_stepper = record {
  keeps = false;
  stands = IsStepped;
  ends = λ _. None;
  starts = λ v. v.start;
  plan = λ v. v.plan;
  fresh = λ v. v ≡ standing_after v.plan [];
}

-- the start that a stepper planned last is so by each journal that it may stand for
pub start_stepped : (v : Standing) (d : Driven) → IsStepped v d → v.start ≡ next_start_of d
start_stepped v d st =
    ap (λ (v : Standing). v.start) st.1.is
    ∙ ap (λ (s : Schedule). next_start_of (record { plan = s; journal = d.journal })) st.0

-- a driver of R with a deadline, or with none
pub record Until (R : Type 0) : Type 0 where
  pub driver : R
  pub deadline : Option ℕ

abbrev pub coded_until : {R : Type 0} → Coded R → Coded (Until R)
coded_until {R} coded_driver =
    code_by (R × Option ℕ) (coded× coded_driver (coded_option coded_ℕ))
    (λ u. (u.driver, u.deadline)) (λ p. record { driver = p.0; deadline = p.1 }) (λ _. refl)

-- It stands for what its driver does. Where that has a deadline of its own, the earlier one counts.
abbrev pub by_until : {R : Type 0} → Driving R → Driving (Until R)
by_until driving = record {
  keeps = driving.keeps;
  stands = λ v. driving.stands v.driver;
  ends = λ v. earlier v.deadline (driving.ends v.driver);
  starts = λ v. in_time v.deadline (driving.starts v.driver);
  plan = λ v. driving.plan v.driver;
  fresh = λ v. driving.fresh v.driver;
}
