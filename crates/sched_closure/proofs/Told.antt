-- What turns of a machine leave of what it may stand for.
use Rattle.std.proofs.Common.{◌≡◌, ◌⊎◌, inl, inr, ℕ, Bool, true, false, List, [], ◌∷◌, ◌++◌, Option, Some, None, Result}
use Rattle.std.proofs.Common.{refl, sym, ap, ◌∙◌, subst}
use Rattle.std.specs.List.{FoldsTo}
use Rattle.std.proofs.lemmas.Fn.{FoldsTo-push}
use Rattle.std.proofs.lemmas.List.{append-nil}
use Rattle.sched_time.specs.declared.numbers.Tick.{Tick}
use Rattle.sched_ticket_draws.specs.Grants.{Grants}
use Rattle.sched_effect.specs.Runs.{ran_by}
use Rattle.sched_effect.specs.declared.ran.Ran.{Ran}
use Rattle.sched_task.specs.Course.{Answered}
use Rattle.sched_task.specs.Words.{next_four}
use Rattle.sched_task.specs.declared.endings.How.{How}
use Rattle.sched_task_law.specs.Kind.{Kind}
use Rattle.sched_task_law.specs.Past.{Past}
use Rattle.sched_task_law.specs.Lists.{last_element}
use Rattle.sched_task_law.proofs.Lists.{last_element-push}
use Rattle.sched_run_machine.specs.Drives.{Driving}
use Rattle.sched_run_machine.specs.Machine.{IsMachineOf}
use Rattle.sched_run_machine.specs.Next.{Finds}
use Rattle.sched_run_machine.specs.declared.next.Next.{Next}
use Rattle.sched_run_machine.specs.declared.next.Next.TheVariants.{Poll, Wait}
use Rattle.sched_run_machine.proofs.Calls.{same_deadline}
use Rattle.sched_run_machine.specs.Retrying.{Retrying}
use Rattle.sched_closure.specs.Turns.{Turning, Calling, calling, Finishes, Turn}
use Rattle.sched_closure.specs.Calls.{task_turning, machine_turning}

-- where nothing is to be run, no run is under way
pub idle_found : (over : Option How) (running : Bool) (next : Next) → Finds over running next →
    (next ≡ Poll) ⊎ ((moment : ℕ) × (next ≡ Wait moment)) → running ≡ false
idle_found over running next found which = elim which [
  | inl polls ↦ (subst (λ (next : Next). Finds over running next) polls found).1
  | inr waits ↦ (subst (λ (next : Next). Finds over running next) waits.1 found).1
]

-- What a machine tells of each task that it may stand for, whose finished runs are these: a poll of it is one of the
-- task.
pub record Follows {M T : Type 0} (on_m : Turning M) (on_t : Turning T) (stands : M → T → Type 0)
    (runs : T → List Ran) : Type 0 where
  pub running : (m : M) (v : T) → stands m v → on_m.running m ≡ on_t.running v
  pub due : (m : M) (v : T) (start : Option ℕ) → stands m v → on_m.due m start → on_t.due v start
  pub polls : (m n : M) (v : T) (t : Tick) (told : List Ran) → stands m v → on_m.polls m t told n →
      (u : T) × on_t.polls v t told u × stands n u
  pub adds : (v u : T) (t : Tick) (told : List Ran) → on_t.polls v t told u → runs u ≡ runs v ++ told

module _ {K C I F : Type 0} (tells : K → ℕ → K → Type 0) (waits : K → ℕ → ℕ → K → Type 0)
    (gives : C → Result I F → C → Type 0)
    (item_code : I → ℕ) (fault_code : F → ℕ) where
  -- one more turn
  pub one_more : {T : Type 0} (on : Turning T) (s m n : Calling T K C (Result I F)) (ticks : List Tick) (tick : Tick)
      (told : List Ran)
      (start : Option ℕ) → FoldsTo (Turn on tells waits gives item_code fault_code) s ticks m → on.due m.task start →
      Finishes item_code fault_code gives (on.running m.task) m.call m.last told n.call n.last →
      Answered tells waits start m.clock tick.now n.clock → (tick.words, n.words) ≡ next_four m.words →
      on.polls m.task tick told n.task → FoldsTo (Turn on tells waits gives item_code fault_code) s (ticks ++ tick ∷ [])
      n
  one_more on s m n ticks tick told start was due finishes moment lanes poll =
      FoldsTo-push (Turn on tells waits gives item_code fault_code) s ticks m tick n was (record {
        told = told;
        start = start;
        due = due;
        finishes = finishes;
        moment = moment;
        lanes = lanes;
        poll = poll;
      })

  -- the last call gave the last run
  abbrev pub LastIs : List Ran → Option (Result I F) → Type 0
  LastIs runs None = Unit {0}
  LastIs runs (Some outcome) = last_element runs ≡ Some (ran_by item_code fault_code outcome)

  last_then : (running : Bool) (before after : List Ran) (call called : C) (last gave : Option (Result I F))
      (told : List Ran) →
      Finishes item_code fault_code gives running call last told called gave → after ≡ before ++ told →
      LastIs before last → LastIs after gave
  last_then true before after call called last gave told finishes grown was =
      subst (λ (gave : Option (Result I F)). LastIs after gave) (sym finishes.3)
      (ap last_element (grown ∙ ap (λ (told : List Ran). before ++ told) finishes.2)
      ∙ last_element-push before (ran_by item_code fault_code finishes.0))
  last_then false before after call called last gave told finishes grown was =
      subst (λ (gave : Option (Result I F)). LastIs after gave) (sym finishes.2)
      (subst (λ (runs : List Ran). LastIs runs last)
      (sym (grown ∙ ap (λ (told : List Ran). before ++ told) finishes.0 ∙ append-nil before)) was)

  module _ {M T : Type 0} (on_m : Turning M) (on_t : Turning T) (stands : M → T → Type 0) (runs : T → List Ran)
      (follows : Follows on_m on_t stands runs) where
    -- this task in the place of the machine
    abbrev pub with_task : Calling M K C (Result I F) → T → Calling T K C (Result I F)
    with_task s v = calling v s.clock s.words s.call s.last

    -- turns of the machine are turns of each task that it may stand for
    pub through : (s : Calling M K C (Result I F)) (ticks : List Tick) (n : Calling M K C (Result I F)) →
        FoldsTo (Turn on_m tells waits gives item_code fault_code) s ticks n → (v : T) → stands s.task v →
        LastIs (runs v) s.last → (u : T) × FoldsTo (Turn on_t tells waits gives item_code fault_code) (with_task s v)
        ticks (with_task n u)
        × stands n.task u × LastIs (runs u) n.last
    through s [] n turns v st was =
        subst (λ (n : Calling M K C (Result I F)). (u : T) × (with_task s v ≡ with_task n u) × stands n.task u
        × LastIs (runs u) n.last)
        turns (v, refl, st, was)
    through s (tick ∷ ticks) n turns v st was =
        let turn = turns.1 in
        let one = follows.polls s.task turns.0.task v tick turn.told st turn.poll in
        let on_then = last_then (on_m.running s.task) (runs v) (runs one.0) s.call turns.0.call s.last turns.0.last
        turn.told turn.finishes
        (follows.adds v one.0 tick turn.told one.1) was in
        let rest = through turns.0 ticks n turns.2 one.0 one.2 on_then in
        let here : Turn on_t tells waits gives item_code fault_code (with_task s v) tick (with_task turns.0 one.0) =
        record {
          told = turn.told;
          start = turn.start;
          due = follows.due s.task v turn.start st turn.due;
          finishes = subst (λ (running : Bool). Finishes item_code fault_code gives running s.call s.last turn.told
              turns.0.call turns.0.last)
              (follows.running s.task v st) turn.finishes;
          moment = turn.moment;
          lanes = turn.lanes;
          poll = one.1;
        } in
        (rest.0, (with_task turns.0 one.0, here, rest.1), rest.2, rest.3)

-- the machine of a retry, or of a repeat
pub machine_follows : {R D : Type 0} (driving : Driving R) (kind : Kind) (grants : Grants D) →
    Follows (machine_turning grants kind driving) (task_turning grants kind) (IsMachineOf driving kind grants)
    (λ (v : Retrying D). v.past.runs)
machine_follows driving kind grants = record {
  running = λ m v st. st.under_way;
  due = λ m v start st due. due v st;
  polls = λ m n v t told st polls. polls.leads v st;
  adds = λ v u t told poll. poll.runs;
}

-- what stays in each poll stays over turns: the deadline, and the budget on which it draws
module _ {D K C I F : Type 0} (grants : Grants D) (kind : Kind) (tells : K → ℕ → K → Type 0)
    (waits : K → ℕ → ℕ → K → Type 0)
    (gives : C → Result I F → C → Type 0) (item_code : I → ℕ) (fault_code : F → ℕ) where
  pub deadline_stays : (s : Calling (Retrying D) K C (Result I F)) (ticks : List Tick)
      (n : Calling (Retrying D) K C (Result I F)) →
      FoldsTo (Turn (task_turning grants kind) tells waits gives item_code fault_code) s ticks n →
      n.task.past.deadline ≡ s.task.past.deadline
  deadline_stays s [] n turns = sym (ap (λ (s : Calling (Retrying D) K C (Result I F)). s.task.past.deadline) turns)
  deadline_stays s (tick ∷ ticks) n turns =
      let poll = turns.1.poll.poll.poll in
      deadline_stays turns.0 ticks n turns.2
      ∙ ap (λ (p : Past). p.deadline) poll.leaves ∙ same_deadline kind s.task.past tick poll.happened

  pub budget_stays : (s : Calling (Retrying D) K C (Result I F)) (ticks : List Tick)
      (n : Calling (Retrying D) K C (Result I F)) →
      FoldsTo (Turn (task_turning grants kind) tells waits gives item_code fault_code) s ticks n →
      grants.name n.task.drawing ≡ grants.name s.task.drawing
  budget_stays s [] n turns = sym (ap (λ (s : Calling (Retrying D) K C (Result I F)). grants.name s.task.drawing) turns)
  budget_stays s (tick ∷ ticks) n turns = budget_stays turns.0 ticks n turns.2 ∙ turns.1.poll.poll.budget
