-- What contracts see of a retry or a repeat, what is true of it between any two polls, and one poll of it.
use Rattle.std.specs.Prelude.{◌≡◌, ℕ, ◌+◌, Bool, true, false, not, if◌then◌else◌, List, ◌++◌, Some, is_some, refl}
use Rattle.std.specs.Bool.{MatchBool}
use Rattle.std.specs.Coded.{Coded, code_by, coded×, coded_ℕ, coded_bool}
use Rattle.sched_time.specs.declared.numbers.Tick.{Tick}
use Rattle.sched_driver.specs.Driven.{Driven}
use Rattle.sched_effect.specs.declared.ran.Ran.{Ran}
use Rattle.sched_effect.specs.declared.ran.Ran.TheVariants.{Won, Lost}
use Rattle.sched_ticket_draws.specs.Grants.{Grants}
use Rattle.sched_task.specs.declared.endings.How.TheVariants.{Cancelled}
use Rattle.sched_task_law.specs.Kind.{Kind, draws}
use Rattle.sched_task_law.specs.Past.{PastOf, is_under_way}
use Rattle.sched_task_law.specs.Poll.{Happened, stays, cannot_begin, runs_on, cannot_run, ends, breaks, stops_done}
use Rattle.sched_task_law.specs.Poll.{stops_denied, recurs, times_out, OnePoll}
use Rattle.sched_task_law.specs.Law.{Law}
use Rattle.sched_task_law.specs.Codes.{coded_past}
use Rattle.sched_run_machine.specs.Drives.{Driving}

-- A retry that is driven by a value of R and draws its tickets by one of D, or a repeat, which has such a value and
-- draws none.
pub record RetryingOf (R D : Type 0) : Type 0 where
  -- what it has done so far
  pub past : PastOf R
  -- what it draws by
  pub drawing : D
  -- how many tickets that had been granted before
  pub had : ℕ
  -- its ending was not taken yet
  pub untaken : Bool

-- where its journal is known
abbrev pub Retrying : Type 0 → Type 0
Retrying D = RetryingOf Driven D

abbrev pub coded_retrying : {R D : Type 0} → Coded R → Coded D → Coded (RetryingOf R D)
coded_retrying {R} {D} coded_driver coded_drawing =
    code_by (PastOf R × (D × (ℕ × Bool)))
    (coded× (coded_past coded_driver) (coded× coded_drawing (coded× coded_ℕ coded_bool)))
    (λ v. (v.past, (v.drawing, (v.had, v.untaken))))
    (λ p. record { past = p.0; drawing = p.1.0; had = p.1.1.0; untaken = p.1.1.1 }) (λ _. refl)

module _ {D : Type 0} (grants : Grants D) where
  -- The law of a task, and what its tickets have to do with it.
  pub record RetryLaw (kind : Kind) (v : Retrying D) : Type 0 where
    pub law : Law kind v.past
    -- the tickets granted in it come to those that were there
    pub granted : grants.granted v.drawing ≡ v.had + v.past.granted
    -- its last draw was refused where it is denied
    pub denied : v.past.denied ≡ true → grants.refused v.drawing
    pub stands : grants.stands v.drawing
    -- there is an ending to take only where it is over
    pub untaken : v.untaken ≡ true → is_some v.past.over ≡ true

  -- a ticket is drawn at a moment, where each recurrence needs one
  abbrev pub Drawn : Bool → ℕ → D → D → Type 0
  Drawn true now d e = grants.drew d now true e
  Drawn false now d e = e ≡ d

  -- what it draws by is told at a moment how a run went
  abbrev pub Tells : Ran → ℕ → D → D → Type 0
  Tells (Won code) now d e = grants.succeeded d now e
  Tells (Lost code) now d e = grants.failed d now code e

  -- and then, where that ends the task, that it is over
  abbrev pub TellsLast : Ran → ℕ → D → D → Type 0
  TellsLast r now d e = (x : D) × Tells r now d x × grants.ended x false e

  -- What a poll at a moment does to what it draws by, in this order. That is told how a finished run went, before the
  -- schedule is asked. A ticket is drawn where that goes on, if one is needed, and nowhere else. It is told last that
  -- the task is over, where that is so, and whether the run was not begun that was to be made next.
  abbrev pub DrawsIn : Bool → Happened → ℕ → D → D → Type 0
  DrawsIn needed stays now d e = e ≡ d
  DrawsIn needed cannot_begin now d e = grants.ended d true e
  DrawsIn needed runs_on now d e = e ≡ d
  DrawsIn needed cannot_run now d e = grants.ended d false e
  DrawsIn needed (ends r) now d e = TellsLast r now d e
  DrawsIn needed (breaks r fault) now d e = TellsLast r now d e
  DrawsIn needed (stops_done r) now d e = TellsLast r now d e
  DrawsIn needed (stops_denied r) now d e =
      (x : D) × (y : D) × Tells r now d x × grants.drew x now false y × grants.ended y false e
  DrawsIn needed (recurs r) now d e = (x : D) × Tells r now d x × Drawn needed now x e
  DrawsIn needed times_out now d e = grants.ended d true e

  -- One poll of it, exactly.
  pub record RetryPoll (kind : Kind) (v : Retrying D) (t : Tick) (ready : Bool) (u : Retrying D) : Type 0 where
    pub poll : OnePoll kind v.past t ready u.past
    pub drawing : DrawsIn (draws kind) poll.happened t.now v.drawing u.drawing
    -- it draws on the same budget as before
    pub budget : grants.name u.drawing ≡ grants.name v.drawing
    pub had : u.had ≡ v.had
    -- where it ends in this poll, its ending can be taken
    pub untaken : u.untaken ≡ (if is_some v.past.over then v.untaken else ready)

  -- One poll, in which the runs that finish are those that the host told.
  pub record HostPoll (kind : Kind) (v : Retrying D) (t : Tick) (told : List Ran) (u : Retrying D) : Type 0 where
    pub poll : RetryPoll kind v t (is_some u.past.over) u
    pub runs : u.past.runs ≡ v.past.runs ++ told

-- the task by this journal
abbrev pub along : {R D : Type 0} → RetryingOf R D → Driven → Retrying D
along v d = record {
  past = record {
    driver = d;
    deadline = v.past.deadline;
    runs = v.past.runs;
    begun = v.past.begun;
    over = v.past.over;
    denied = v.past.denied;
    granted = v.past.granted;
  };
  drawing = v.drawing;
  had = v.had;
  untaken = v.untaken;
}

module _ {R D : Type 0} (driving : Driving R) (grants : Grants D) (kind : Kind) where
  -- Its driver may stand for this journal, by which it keeps its law, and has its deadline.
  pub record IsAlong (v : RetryingOf R D) (d : Driven) : Type 0 where
    pub stands : driving.stands v.past.driver d
    pub law : RetryLaw grants kind (along v d)
    pub deadline : driving.ends v.past.driver ≡ v.past.deadline

  -- what is true of it between any two polls: there is such a journal
  abbrev pub KeepsLaw : RetryingOf R D → Type 0
  KeepsLaw v = (d : Driven) × IsAlong v d

  -- One poll of it: one of the task by each journal that its driver may stand for.
  pub record TaskPoll (v : RetryingOf R D) (t : Tick) (ready : Bool) (u : RetryingOf R D) : Type 0 where
    pub keeps : KeepsLaw v
    pub leads : (d : Driven) → IsAlong v d →
        (e : Driven) × RetryPoll grants kind (along v d) t ready (along u e) × IsAlong u e

-- one that is cancelled, whose request is over for what it draws by
abbrev pub given_up : {R D : Type 0} → RetryingOf R D → D → RetryingOf R D
given_up v drawing = record v { past = record v.past { over = Some Cancelled }; drawing = drawing; untaken = true }

-- One that is not over is cancelled. What it draws by is told so, and that no run was begun where none is under way.
abbrev pub GivesUp : {R D : Type 0} → Grants D → RetryingOf R D → RetryingOf R D → Type 0
GivesUp grants v u =
    MatchBool (is_some v.past.over) (u ≡ v)
    (grants.ended v.drawing (not (is_under_way v.past.runs v.past.begun)) u.drawing × (u ≡ given_up v u.drawing))
