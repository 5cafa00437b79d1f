-- What contracts see of a machine, and which retries or repeats it may stand for.
use Rattle.std.specs.Prelude.{◌≡◌, ℕ, ◌⊎◌, Bool, true, false, not, ◌&&◌, nat_lt, List, length, min}
use Rattle.std.specs.Prelude.{Option, Some, None, is_some, refl}
use Rattle.std.specs.Bool.{MatchBool}
use Rattle.std.specs.Coded.{Coded, code_by, coded×, coded_ℕ, coded_bool, coded_option}
use Rattle.sched_time.specs.declared.numbers.Tick.{Tick}
use Rattle.sched_plan.specs.Schedule.{Schedule}
use Rattle.sched_ticket_draws.specs.Grants.{Grants}
use Rattle.sched_effect.specs.Runs.{code_of}
use Rattle.sched_effect.specs.declared.ran.Ran.{Ran}
use Rattle.sched_task.specs.declared.endings.How.{How}
use Rattle.sched_task.specs.declared.endings.How.TheVariants as how
use Rattle.sched_task.specs.declared.endings.RunFault.TheVariants.{NoMemory}
use Rattle.sched_task_law.specs.Deadline.{is_past}
use Rattle.sched_task_law.specs.Kind.{Kind, draws, calls, final}
use Rattle.sched_task_law.specs.Past.{nothing_until, is_under_way}
use Rattle.sched_task_law.specs.Poll.{stays, IsDue, May}
use Rattle.sched_task_law.specs.Codes.{coded_how}
use Rattle.sched_run_machine.specs.Drives.{Driving, Stepped, Refused}
use Rattle.sched_run_machine.specs.Retrying.{Retrying, RetryLaw, Drawn, Tells, HostPoll}
use Rattle.sched_run_machine.specs.declared.next.Next.{Next}
use Rattle.sched_run_machine.specs.declared.next.Next.TheVariants.{Wait}

-- a machine with a driver of R, which draws by a value of D
pub record Machine (R D : Type 0) : Type 0 where
  pub driver : R
  -- a run was begun and is not reported
  pub under_way : Bool
  pub over : Option How
  pub drawing : D
  -- how many tickets that had been granted before
  pub had : ℕ
  -- how many runs were reported
  pub told : ℕ

abbrev pub coded_machine : {R D : Type 0} → Coded R → Coded D → Coded (Machine R D)
coded_machine {R} {D} coded_driver coded_drawing =
    code_by (R × (Bool × (Option How × (D × (ℕ × ℕ)))))
    (coded× coded_driver
    (coded× coded_bool (coded× (coded_option coded_how) (coded× coded_drawing (coded× coded_ℕ coded_ℕ)))))
    (λ m. (m.driver, (m.under_way, (m.over, (m.drawing, (m.had, m.told))))))
    (λ p. record {
      driver = p.0;
      under_way = p.1.0;
      over = p.1.1.0;
      drawing = p.1.1.1.0;
      had = p.1.1.1.1.0;
      told = p.1.1.1.1.1;
    })
    (λ _. refl)

-- a report is heard where a run is under way and the machine is not over
abbrev pub is_told : {R D : Type 0} → Machine R D → Bool
is_told m = not (is_some m.over) && m.under_way

-- where it waits, it is for no moment past the deadline
abbrev pub WaitsInTime : Option ℕ → Next → Type 0
WaitsInTime deadline (Wait start) = is_past deadline start ≡ false
WaitsInTime deadline _ = Unit {0}

-- another run would begin past the deadline: none is under way, and one was reported
abbrev pub would_be_late : {R D : Type 0} → Option ℕ → Machine R D → ℕ → Bool
would_be_late deadline m now = is_past deadline now && (nat_lt 0 m.told && not m.under_way)

-- one that its deadline ends, with what it draws by then
abbrev pub timed_out : {R D : Type 0} → Machine R D → D → Machine R D
timed_out m drawing = record m { over = Some how.DeadlinePassed; drawing = drawing }

-- one to whose run, or to the beginning of it, memory is refused
abbrev pub breaks_off : {R D : Type 0} → Bool → Machine R D → D → Machine R D
breaks_off begun m drawing = record m { under_way = begun; over = Some (how.Broken NoMemory); drawing = drawing }

-- one that is cancelled
abbrev pub cancelled : {R D : Type 0} → Machine R D → D → Machine R D
cancelled m drawing = record m { over = Some how.Cancelled; drawing = drawing }

module _ {D : Type 0} (grants : Grants D) where
  -- Its deadline ends a machine, and what it draws by is told so: the next run was not begun.
  abbrev pub TimesOut : {R : Type 0} → Machine R D → Machine R D → Type 0
  TimesOut m n = grants.ended m.drawing true n.drawing × (n ≡ timed_out m n.drawing)

  -- Memory is refused to its run, or to the beginning of it, and what it draws by is told so.
  abbrev pub BreaksOff : {R : Type 0} → Bool → Machine R D → Machine R D → Type 0
  BreaksOff begun m n = grants.ended m.drawing (not begun) n.drawing × (n ≡ breaks_off begun m n.drawing)

  -- One that is not over is cancelled. What it draws by is told so, and that no run was begun where none is under way.
  abbrev pub Cancels : {R : Type 0} → Machine R D → Machine R D → Type 0
  Cancels m n =
      MatchBool (is_some m.over) (n ≡ m)
      (grants.ended m.drawing (not m.under_way) n.drawing × (n ≡ cancelled m n.drawing))

  -- What a poll at this moment leaves: the machine as it was; the machine with a run under way, which does not begin
  -- too late; or, where that would begin too late, the machine ended by its deadline.
  abbrev pub PollsInTime : {R : Type 0} → Option ℕ → Machine R D → ℕ → Machine R D → Type 0
  PollsInTime deadline m now n =
      (n ≡ m) ⊎ (((would_be_late deadline m now ≡ false) × (n ≡ record m { under_way = true }))
      ⊎ ((m.over ≡ None) × (would_be_late deadline m now ≡ true) × TimesOut m n))

  -- what it draws by is told that the task is over, where it is
  abbrev pub TellsEnd : Option How → D → D → Type 0
  TellsEnd None d e = e ≡ d
  TellsEnd (Some how) d e = grants.ended d false e

  -- a machine that has not begun, and what it stands for
  abbrev pub begins : {R : Type 0} → R → D → Machine R D
  begins driver drawing = record {
    driver = driver;
    under_way = false;
    over = None;
    drawing = drawing;
    had = grants.granted drawing;
    told = 0;
  }

  abbrev pub unbegun : Schedule → Option ℕ → D → Retrying D
  unbegun plan deadline drawing = record {
    past = nothing_until plan deadline;
    drawing = drawing;
    had = grants.granted drawing;
    untaken = false;
  }

module _ {R D : Type 0} (driving : Driving R) (kind : Kind) (grants : Grants D) where
  -- The machine is that of this task, which keeps its law: its driver may stand for the task's journal and has its
  -- deadline, and a run is under way in both or in neither.
  pub record IsMachineOf (m : Machine R D) (v : Retrying D) : Type 0 where
    pub law : RetryLaw grants kind v
    pub driver : driving.stands m.driver v.past.driver
    pub deadline : driving.ends m.driver ≡ v.past.deadline
    pub under_way : m.under_way ≡ is_under_way v.past.runs v.past.begun
    pub over : m.over ≡ v.past.over
    pub drawing : m.drawing ≡ v.drawing
    pub had : m.had ≡ v.had
    pub told : m.told ≡ min (length v.past.runs) 18446744073709551615

  -- there is a task that it may stand for
  abbrev pub IsMachine : Machine R D → Type 0
  IsMachine m = (v : Retrying D) × IsMachineOf m v

  -- what a look before a poll tells of each task that it may stand for: it stays as it is, or is due
  abbrev pub Looks : Machine R D → Tick → Bool → Type 0
  Looks m t true = (v : Retrying D) → IsMachineOf m v → May kind v.past t stays
  Looks m t false = (v : Retrying D) → IsMachineOf m v → IsDue v.past t

  -- each task that the machine may stand for comes by one poll, in which these runs finish, to one that it may stand
  -- for then
  abbrev pub LeadsEach : Machine R D → Tick → List Ran → Machine R D → Type 0
  LeadsEach m t told n = (v : Retrying D) → IsMachineOf m v →
      (u : Retrying D) × HostPoll grants kind v t told u × IsMachineOf n u

  -- One poll of each task that the machine may stand for, in which the runs that finished are those told.
  pub record PollsEach (m : Machine R D) (t : Tick) (told : List Ran) (n : Machine R D) : Type 0 where
    pub leads : LeadsEach m t told n

  -- What the step comes to that a run of this code calls for: the driver r and what draws, p, become s and q. It draws
  -- where the schedule goes on, if a ticket is needed, and nowhere else.
  abbrev pub Stops : R → D → Tick → ℕ → Option How → R → D → Type 0
  Stops r p t code None s q =
      Stepped driving r t code false s × Drawn grants (draws kind) t.now p q
  Stops r p t code (Some how.ScheduleDone) s q = Stepped driving r t code true s × (q ≡ p)
  Stops r p t code (Some how.BudgetRefused) s q =
      (draws kind ≡ true) × Stepped driving r t code false s × grants.drew p t.now false q
  Stops r p t code (Some (how.Broken fault)) s q = Refused driving r t fault × (s ≡ r) × (q ≡ p)
  Stops r p t code _ s q = ⊥

  -- where it calls for no step, it ends the task
  abbrev pub StopsOrEnds : R → D → Tick → Ran → Option How → R → D → Type 0
  StopsOrEnds r p t ran over s q =
      MatchBool (calls kind ran) (Stops r p t (code_of ran) over s q) ((over ≡ Some (final kind)) × (s ≡ r) × (q ≡ p))

  -- What the end of a run comes to: what draws is told how it went; the schedule is asked, and it draws; and it is told
  -- that the task is over, where it is.
  abbrev pub Ends : R → D → Tick → Ran → Option How → R → D → Type 0
  Ends r p t ran over s q =
      (x : D) × (y : D) × Tells grants ran t.now p x × StopsOrEnds r x t ran over s y × TellsEnd grants over y q
