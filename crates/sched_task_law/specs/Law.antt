-- What is true of a task between any two polls.
use Rattle.std.specs.Prelude.{◌≡◌, ℕ, ◌+◌, ◌<◌, ◌≤◌, ◌⊎◌, Bool, true, false, not}
use Rattle.std.specs.Prelude.{[], ◌∷◌, ◌++◌, take, length, slice_index, Option, Some, None, IsSomeAnd}
use Rattle.sched_time.specs.Decision.{start_of}
use Rattle.sched_plan.specs.Datum.{num}
use Rattle.sched_plan.specs.Answer.{is_done}
use Rattle.sched_task.specs.declared.endings.How.{How}
use Rattle.sched_task.specs.declared.endings.How.TheVariants.{Won, ScheduleDone, BudgetRefused, DeadlinePassed, Failed}
use Rattle.sched_task.specs.declared.endings.How.TheVariants.{Cancelled, Broken}
use Rattle.sched_task_law.specs.Lists.{all_but_last, last_is}
use Rattle.sched_task_law.specs.Kind.{Kind, repeats, draws, calls, is_final}
use Rattle.sched_task_law.specs.Past.{Past, decision_on, schedule_is_done, recurrences, inputs, called_inputs}
use Rattle.sched_task_law.specs.Past.{is_stopped, bit}

abbrev pub is_broken : Option How → Bool
is_broken (Some (Broken fault)) = true
is_broken _ = false

-- the ending says that the schedule was done, or that the budget refused a ticket
abbrev pub is_stop : Option How → Bool
is_stop (Some ScheduleDone) = true
is_stop (Some BudgetRefused) = true
is_stop _ = false

-- the ending says that the budget refused a ticket
abbrev pub is_refused : Option How → Bool
is_refused (Some BudgetRefused) = true
is_refused _ = false

-- a run may be left unfinished by this ending, or while there is none
abbrev pub may_leave_a_run : Option How → Bool
may_leave_a_run None = true
may_leave_a_run (Some Cancelled) = true
may_leave_a_run (Some (Broken fault)) = true
may_leave_a_run _ = false

-- the step that the last run called for was refused, and the task is broken
pub record LacksLast (kind : Kind) (v : Past) : Type 0 where
  pub broken : is_broken v.over ≡ true
  pub unstopped : is_stopped v ≡ false
  pub last : last_is (calls kind) v.runs ≡ true
  pub code : ℕ
  pub rest : called_inputs kind v.runs ≡ inputs v.driver.journal ++ num code ∷ []

-- one run more was begun than have finished
pub record HasOneMore (v : Past) : Type 0 where
  pub one_more : length v.begun ≡ length v.runs + 1
  pub left : may_leave_a_run v.over ≡ true
  pub unstopped : is_stopped v ≡ false

-- What each ending says. A task is over where its schedule is done, and where it is denied. One that its deadline ended
-- was to run again after its last run.
abbrev pub Ended : Kind → Past → Option How → Type 0
Ended kind v None = is_stopped v ≡ false
Ended kind v (Some Won) = (repeats kind ≡ false) × (is_stopped v ≡ false)
Ended kind v (Some ScheduleDone) = (schedule_is_done v.deadline v.driver ≡ true) × (v.denied ≡ false)
Ended kind v (Some BudgetRefused) = v.denied ≡ true
Ended kind v (Some DeadlinePassed) = (is_stopped v ≡ false) × (last_is (calls kind) v.runs ≡ true)
Ended kind v (Some Failed) = (repeats kind ≡ true) × (is_stopped v ≡ false)
Ended kind v (Some Cancelled) = is_stopped v ≡ false
Ended kind v (Some (Broken fault)) = is_stopped v ≡ false

-- A ticket is needed, the last run calls for a step, and the schedule goes on.
pub record IsDenied (kind : Kind) (v : Past) : Type 0 where
  pub drawn : draws kind ≡ true
  pub undone : schedule_is_done v.deadline v.driver ≡ false
  pub last : last_is (calls kind) v.runs ≡ true
  pub stepped : 0 < length v.driver.journal

pub record Law (kind : Kind) (v : Past) : Type 0 where
  -- each run but the last calls for a step of the schedule, and the last calls for none exactly where it ended the task
  pub before_last : all_but_last (calls kind) v.runs ≡ true
  pub last : last_is (λ r. not (calls kind r)) v.runs ≡ is_final kind v.over
  -- the journal has the codes of the runs that call for a step, in order; the last one's is missing where its step was
  -- refused
  pub fed : (inputs v.driver.journal ≡ called_inputs kind v.runs) ⊎ LacksLast kind v
  -- the schedule goes on at each event but the last
  pub went_on : (n : ℕ) → 0 < n → n < length v.driver.journal →
      is_done (decision_on v.deadline v.driver.plan (take n v.driver.journal)) ≡ false
  -- each run after the first was begun at or after the start that the schedule planned at the event before
  pub waited : (n : ℕ) → 0 < n → n < length v.begun → (n ≤ length v.driver.journal)
      × IsSomeAnd (start_of (decision_on v.deadline v.driver.plan (take n v.driver.journal)))
      (λ start. start ≤ slice_index v.begun n)
  -- as many runs were begun as have finished, or one more; no run begins once the task is stopped
  pub counted : (length v.begun ≡ length v.runs) ⊎ HasOneMore v
  pub denied : v.denied ≡ true → IsDenied kind v
  pub done : schedule_is_done v.deadline v.driver ≡ true → last_is (calls kind) v.runs ≡ true
  pub ended : Ended kind v v.over
  -- the tickets are as many as the events at which the schedule goes on, less the one that was refused
  pub granted : draws kind ≡ true → v.granted + bit v.denied ≡ recurrences v.deadline v.driver
