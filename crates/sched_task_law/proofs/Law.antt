-- A task keeps its law over each poll.
use Rattle.std.proofs.Common.{◌≡◌, ℕ, ◌+◌, ◌<◌, ◌≤◌, ◌⊎◌, inl, inr, Bool, true, false, not, ◌&&◌, ◌||◌, List, [], ◌∷◌}
use Rattle.std.proofs.Common.{◌++◌, filter, take, length, get_or, Option, Some, None, is_some, IsSome, IfSome}
use Rattle.std.proofs.Common.{if◌then◌else◌, IsSomeAnd, refl, sym, ap, ◌∙◌, subst, arith}
use Rattle.std.specs.List.{list_all}
use Rattle.std.proofs.lemmas.Bool.{ltb-true, ltb-false, cases_lt, and_parts}
use Rattle.std.proofs.lemmas.List.{take_all, take-append-le, get_or_append_left, length_push, length-map}
use Rattle.std.proofs.Math.Seq.{get_or-append_seam}
use Rattle.sched_time.specs.Decision.{start_of}
use Rattle.sched_time.specs.declared.numbers.Tick.{Tick}
use Rattle.sched_plan.specs.Datum.{Datum, num}
use Rattle.sched_plan.specs.Schedule.{Schedule}
use Rattle.sched_plan.specs.Answer.{is_done}
use Rattle.sched_plan.specs.declared.history.Event.{Event}
use Rattle.sched_driver.specs.Driven.{Driven, after as driven_after}
use Rattle.sched_effect.specs.Runs.{code_of}
use Rattle.sched_effect.specs.declared.ran.Ran.{Ran}
use Rattle.sched_task.specs.declared.endings.How.{How}
use Rattle.sched_task.specs.declared.endings.How.TheVariants.{ScheduleDone, BudgetRefused, DeadlinePassed, Cancelled}
use Rattle.sched_task.specs.declared.endings.How.TheVariants.{Broken}
use Rattle.sched_task.specs.declared.endings.RunFault.{RunFault}
use Rattle.sched_task.specs.declared.endings.RunFault.TheVariants.{NoMemory}
use Rattle.sched_task_law.specs.Deadline.{is_past}
use Rattle.sched_task_law.specs.Kind.{Kind, a_retry, a_repeat, draws, calls, final, is_final}
use Rattle.sched_task_law.specs.Lists.{last_is}
use Rattle.sched_task_law.specs.Past.{PastOf, Past, unstepped, nothing_until, decision_on, schedule_is_done}
use Rattle.sched_task_law.specs.Past.{next_start_by, recurrences, inputs, called_inputs, is_under_way, is_too_late}
use Rattle.sched_task_law.specs.Past.{is_stopped, waits_for, bit}
use Rattle.sched_task_law.specs.Poll.{Happened, stays, cannot_begin, runs_on, cannot_run, ends, breaks, stops_done}
use Rattle.sched_task_law.specs.Poll.{stops_denied, recurs, times_out, begun_by, finished, stepped, step_event, after}
use Rattle.sched_task_law.specs.Poll.{IsDue, CanRun, Steps, May, cancelled}
use Rattle.sched_task_law.specs.Law.{Law, HasOneMore, IsDenied, Ended, may_leave_a_run}
use Rattle.sched_task_law.proofs.Lists.{by_test, all_but_last-push, last_is-push, all_of, length_filter}
use Rattle.sched_task_law.proofs.Journals.{inputs-push, called_inputs-push, called_inputs-same, recurrences-push}
use Rattle.sched_task_law.proofs.Journals.{is_done_some, next_start_some, start_some}

-- the events before a run were waited for
abbrev Waits : Option ℕ → Driven → List ℕ → Type 0
Waits deadline d begun = (n : ℕ) → 0 < n → n < length begun → (n ≤ length d.journal)
    × IsSomeAnd (start_of (decision_on deadline d.plan (take n d.journal))) (λ start. start ≤ get_or begun n 0)

-- what is true where a run may be polled
record Ready (kind : Kind) (v : Past) (t : Tick) : Type 0 where
  all : list_all (calls kind) v.runs ≡ true
  fed : inputs v.driver.journal ≡ called_inputs kind v.runs
  even : length v.driver.journal ≡ length v.runs
  begun : length (begun_by v t) ≡ length v.runs + 1
  waits : Waits v.deadline v.driver (begun_by v t)
  undenied : v.denied ≡ false
  undone : schedule_is_done v.deadline v.driver ≡ false

pub or_false : (a b : Bool) → (a || b) ≡ false → (a ≡ false) × (b ≡ false)
or_false true b e = absurd cc
or_false false b e = (refl, e)

not_true : (b : Bool) → not b ≡ true → b ≡ false
not_true true is = absurd cc
not_true false is = refl

pub or_true : (a b : Bool) → (a || b) ≡ true → a ≡ false → b ≡ true
or_true a b e isnt = rw isnt at e

some_and : {A : Type 0} (o : Option A) (P : A → Type 0) → IsSome o → IfSome o P → IsSomeAnd o P
some_and None P some held = absurd cc
some_and (Some x) P some held = held

some_le : (o : Option ℕ) (m n : ℕ) → m ≡ n → IsSomeAnd o (λ start. start ≤ m) → IsSomeAnd o (λ start. start ≤ n)
some_le o m n same held = subst (λ (k : ℕ). IsSomeAnd o (λ start. start ≤ k)) same held

not_final : (kind : Kind) (v : Past) → v.over ≡ None → is_final kind v.over ≡ false
not_final kind v unended = ap (is_final kind) unended

final_is : (kind : Kind) → is_final kind (Some (final kind)) ≡ true
final_is (a_retry kept) = refl
final_is (a_repeat kept) = refl

final_ended : (kind : Kind) (v : Past) → is_stopped v ≡ false → Ended kind v (Some (final kind))
final_ended (a_retry kept) v unstopped = (refl, unstopped)
final_ended (a_repeat kept) v unstopped = (refl, unstopped)

-- nothing is missing in the journal of a task that is not over
whole : (kind : Kind) (v : Past) → Law kind v → v.over ≡ None → inputs v.driver.journal ≡ called_inputs kind v.runs
whole kind v law unended = elim law.fed [ inl e ↦ e | inr lacks ↦ (let bad = rw unended at lacks.broken in cc) ]

idle_length : (v : Past) → is_under_way v.runs v.begun ≡ false → (length v.begun ≡ length v.runs) ⊎ HasOneMore v →
    length v.begun ≡ length v.runs
idle_length v idle counted = elim counted [
  | inl even ↦ even
  | inr more ↦ (let one = more.one_more in absurd (omega (arith, ltb-false (length v.runs) (length v.begun) idle)))
]

begun_length : (v : Past) (t : Tick) → (length v.begun ≡ length v.runs) ⊎ HasOneMore v →
    length (begun_by v t) ≡ length v.runs + 1
begun_length v t counted =
    by_test (is_under_way v.runs v.begun)
    (λ under. rw under (elim counted [
      | inl even ↦ absurd (omega (arith, ltb-true (length v.runs) (length v.begun) under))
      | inr more ↦ more.one_more
    ]))
    (λ idle. rw idle (omega (arith, length_push v.begun t.now, idle_length v idle counted)))

-- from a tick on at which a run may be polled one is under way, and none once that has finished
pub under_way_then : (v : Past) (t : Tick) → (length v.begun ≡ length v.runs) ⊎ HasOneMore v →
    is_under_way v.runs (begun_by v t) ≡ true
under_way_then v t counted =
    let more = begun_length v t counted in grind (arith, more)

pub finished_then : (v : Past) (t : Tick) (r : Ran) → (length v.begun ≡ length v.runs) ⊎ HasOneMore v →
    is_under_way (v.runs ++ r ∷ []) (begun_by v t) ≡ false
finished_then v t r counted =
    let more = begun_length v t counted in grind (arith, more, length_push v.runs r)

even_length : (kind : Kind) (v : Past) → list_all (calls kind) v.runs ≡ true →
    inputs v.driver.journal ≡ called_inputs kind v.runs → length v.driver.journal ≡ length v.runs
even_length kind v all fed =
    sym (length-map v.driver.journal (λ (e : Event). e.input))
    ∙ ap (length {A = Datum}) fed
    ∙ length-map (filter (calls kind) v.runs) (λ (r : Ran). num (code_of r))
    ∙ length_filter (calls kind) v.runs all

-- what a task waits for that is not over, has no run under way and was not denied, is the start planned last
waits_start : (v : Past) → v.over ≡ None → v.denied ≡ false → is_under_way v.runs v.begun ≡ false →
    waits_for v ≡ next_start_by v.deadline v.driver
waits_start v unended undenied idle = rw (unended, idle, undenied) refl

-- the start planned last has come
due_start : (v : Past) (t : Tick) → IsDue v t → v.denied ≡ false → schedule_is_done v.deadline v.driver ≡ false →
    is_under_way v.runs v.begun ≡ false →
    0 < length v.driver.journal →
    IsSomeAnd (start_of (decision_on v.deadline v.driver.plan v.driver.journal)) (λ start. start ≤ t.now)
due_start v t can undenied undone idle some =
    let planned : waits_for v ≡ start_of (decision_on v.deadline v.driver.plan v.driver.journal) =
    waits_start v can.unended undenied idle ∙ next_start_some v.deadline v.driver some in
    some_and (start_of (decision_on v.deadline v.driver.plan v.driver.journal)) (λ start. start ≤ t.now)
    (start_some (decision_on v.deadline v.driver.plan v.driver.journal) (sym (is_done_some v.deadline v.driver some)
    ∙ undone))
    (subst (λ (o : Option ℕ). IfSome o (λ start. start ≤ t.now)) planned can.due)

waits_idle : (kind : Kind) (v : Past) (t : Tick) → Law kind v → IsDue v t → v.denied ≡ false →
    schedule_is_done v.deadline v.driver ≡ false →
    length v.driver.journal ≡ length v.runs → is_under_way v.runs v.begun ≡ false →
    Waits v.deadline v.driver (v.begun ++ t.now ∷ [])
waits_idle kind v t law can undenied undone even idle n some small =
    elim (cases_lt n (length v.begun)) [
      | inl before ↦ (let old = law.waited n some before in
          (old.0, some_le _ _ _ (sym (get_or_append_left v.begun (t.now ∷ []) 0 n before)) old.1))
      | inr past ↦ (
          let same : length v.begun ≡ length v.runs = idle_length v idle law.counted in
          let here : n ≡ length v.begun = omega (arith, length_push v.begun t.now) in
          let all : take n v.driver.journal ≡ v.driver.journal = take_all n v.driver.journal (omega arith) in
          let last : get_or (v.begun ++ t.now ∷ []) n 0 ≡ t.now =
          ap (λ k. get_or (v.begun ++ t.now ∷ []) k 0) here ∙ get_or-append_seam v.begun t.now [] 0 in
          (omega arith, rw (all, last) (due_start v t can undenied undone idle (omega arith))))
    ]

ready : (kind : Kind) (v : Past) (t : Tick) → Law kind v → IsDue v t → Ready kind v t
ready kind v t law can =
    let stopped = or_false v.denied (schedule_is_done v.deadline v.driver) can.unstopped in
    let all = all_of (calls kind) v.runs law.before_last (law.last ∙ not_final kind v can.unended) in
    let fed = whole kind v law can.unended in
    let even = even_length kind v all fed in
    record {
      all = all;
      fed = fed;
      even = even;
      begun = begun_length v t law.counted;
      waits = by_test (is_under_way v.runs v.begun)
          (λ under. rw under law.waited)
          (λ idle. rw idle (waits_idle kind v t law can stopped.0 stopped.1 even idle));
      undenied = stopped.0;
      undone = stopped.1;
    }

-- a run is under way, or the task broke off while one was
under_way_law : (kind : Kind) (v : Past) (t : Tick) (over : Option How) → Law kind v → IsDue v t →
    is_final kind over ≡ false → may_leave_a_run over ≡ true →
    Ended kind (record v { begun = begun_by v t; over = over }) over →
    Law kind (record v { begun = begun_by v t; over = over })
under_way_law kind v t over law can unfinal left ended =
    let now = ready kind v t law can in
    record {
      before_last = law.before_last;
      last = law.last ∙ not_final kind v can.unended ∙ sym unfinal;
      fed = inl now.fed;
      went_on = law.went_on;
      waited = now.waits;
      counted = inr record { one_more = now.begun; left = left; unstopped = can.unstopped };
      denied = λ denied. absurd (let undenied = now.undenied in cc);
      done = law.done;
      ended = ended;
      granted = law.granted;
    }

-- a run has finished that calls for no step
finished_law : (kind : Kind) (v : Past) (t : Tick) (r : Ran) → Law kind v → IsDue v t → calls kind r ≡ false →
    Law kind (record (finished v t r) { over = Some (final kind) })
finished_law kind v t r law can uncalled =
    let now = ready kind v t law can in
    record {
      before_last = all_but_last-push (calls kind) v.runs r now.all;
      last = last_is-push (λ x. not (calls kind x)) v.runs r ∙ ap not uncalled ∙ sym (final_is kind);
      fed = inl (now.fed ∙ sym (called_inputs-same kind v.runs r uncalled));
      went_on = law.went_on;
      waited = now.waits;
      counted = inl (now.begun ∙ sym (length_push v.runs r));
      denied = λ denied. absurd (let undenied = now.undenied in cc);
      done = λ done. absurd (let undone = now.undone in cc);
      ended = final_ended kind (record (finished v t r) { over = Some (final kind) }) can.unstopped;
      granted = law.granted;
    }

-- a run has finished, and the step that it calls for was refused
broken_law : (kind : Kind) (v : Past) (t : Tick) (r : Ran) (fault : RunFault) → Law kind v → IsDue v t →
    calls kind r ≡ true → Law kind (record (finished v t r) { over = Some (Broken fault) })
broken_law kind v t r fault law can called =
    let now = ready kind v t law can in
    record {
      before_last = all_but_last-push (calls kind) v.runs r now.all;
      last = last_is-push (λ x. not (calls kind x)) v.runs r ∙ ap not called;
      fed = inr record {
        broken = refl;
        unstopped = can.unstopped;
        last = last_is-push (calls kind) v.runs r ∙ called;
        code = code_of r;
        rest = called_inputs-push kind v.runs r called ∙ ap (λ ds. ds ++ num (code_of r) ∷ []) (sym now.fed);
      };
      went_on = law.went_on;
      waited = now.waits;
      counted = inl (now.begun ∙ sym (length_push v.runs r));
      denied = λ denied. absurd (let undenied = now.undenied in cc);
      done = λ done. absurd (let undone = now.undone in cc);
      ended = can.unstopped;
      granted = law.granted;
    }

-- the schedule goes on at each event but the one of the step
goes_on-push : (deadline : Option ℕ) (d : Driven) (e : Event) → schedule_is_done deadline d ≡ false →
    ((n : ℕ) → 0 < n → n < length d.journal → is_done (decision_on deadline d.plan (take n d.journal)) ≡ false) →
    (n : ℕ) → 0 < n → n < length (d.journal ++ e ∷ []) →
    is_done (decision_on deadline d.plan (take n (d.journal ++ e ∷ []))) ≡ false
goes_on-push deadline d e undone before n some small =
    let short : n ≤ length d.journal = omega (arith, length_push d.journal e) in
    let same : take n (d.journal ++ e ∷ []) ≡ take n d.journal = take-append-le n d.journal (e ∷ []) short in
    rw same (elim (cases_lt n (length d.journal)) [
      | inl earlier ↦ before n some earlier
      | inr last ↦ (
          let all : take n d.journal ≡ d.journal = take_all n d.journal last in
          rw all (sym (is_done_some deadline d (omega arith)) ∙ undone))
    ])

-- what was waited for stays so
waits-push : (deadline : Option ℕ) (d : Driven) (e : Event) (begun : List ℕ) → length begun ≡ length d.journal + 1 →
    Waits deadline d begun → Waits deadline (driven_after d e) begun
waits-push deadline d e begun size before n some small =
    let short : n ≤ length d.journal = omega arith in
    let same : take n (d.journal ++ e ∷ []) ≡ take n d.journal = take-append-le n d.journal (e ∷ []) short in
    (omega (arith, length_push d.journal e), rw same (before n some small).1)

-- a run has finished, and the schedule was stepped
stepped_law : (kind : Kind) (v : Past) (t : Tick) (r : Ran) (over : Option How) (denied : Bool) (granted : ℕ) →
    Law kind v → Steps kind v t r → is_final kind over ≡ false →
    (denied ≡ true → (draws kind ≡ true) × (schedule_is_done v.deadline (driven_after v.driver (step_event t r)) ≡
    false)) →
    Ended kind (record (stepped v t r) { over = over; denied = denied; granted = granted }) over →
    (draws kind ≡ true → granted + bit denied ≡ recurrences v.deadline v.driver + bit
    (not (schedule_is_done v.deadline (driven_after v.driver (step_event t r))))) →
    Law kind (record (stepped v t r) { over = over; denied = denied; granted = granted })
stepped_law kind v t r over denied granted law steps unfinal refused ended count =
    let now = ready kind v t law steps.can.is_due in
    let e = step_event t r in
    let even = now.even in
    let size : length (begun_by v t) ≡ length v.driver.journal + 1 = now.begun ∙ ap (λ n. n + 1) (sym even) in
    let last : last_is (calls kind) (v.runs ++ r ∷ []) ≡ true = last_is-push (calls kind) v.runs r ∙ steps.called in
    record {
      before_last = all_but_last-push (calls kind) v.runs r now.all;
      last = last_is-push (λ x. not (calls kind x)) v.runs r ∙ ap not steps.called ∙ sym unfinal;
      fed = inl (inputs-push v.driver.journal e ∙ ap (λ ds. ds ++ num (code_of r) ∷ []) now.fed
          ∙ sym (called_inputs-push kind v.runs r steps.called));
      went_on = goes_on-push v.deadline v.driver e now.undone law.went_on;
      waited = waits-push v.deadline v.driver e (begun_by v t) size now.waits;
      counted = inl (now.begun ∙ sym (length_push v.runs r));
      denied = λ yes. (let both = refused yes in record {
        drawn = both.0;
        undone = both.1;
        last = last;
        stepped = omega (arith, length_push v.driver.journal e);
      });
      done = λ _. last;
      ended = ended;
      granted = λ drawn. count drawn ∙ sym (recurrences-push v.deadline v.driver e);
    }

same_denied : (kind : Kind) (v : Past) (over : Option How) → IsDenied kind v → IsDenied kind (record v { over = over })
same_denied kind v over denied =
    record { drawn = denied.drawn; undone = denied.undone; last = denied.last; stepped = denied.stepped }

refused_law : (kind : Kind) (v : Past) (over : Option How) → Law kind v → v.over ≡ None → is_final kind over ≡ false →
    may_leave_a_run over ≡ true → Ended kind (record v { over = over }) over → Law kind (record v { over = over })
refused_law kind v over law unended unfinal left ended = record {
  before_last = law.before_last;
  last = law.last ∙ not_final kind v unended ∙ sym unfinal;
  fed = inl (whole kind v law unended);
  went_on = law.went_on;
  waited = law.waited;
  counted = elim law.counted [
    | inl even ↦ inl even
    | inr more ↦ inr record { one_more = more.one_more; left = left; unstopped = more.unstopped }
  ];
  denied = λ yes. same_denied kind v over (law.denied yes);
  done = law.done;
  ended = ended;
  granted = law.granted;
}

recurs_count : (kind : Kind) (v : Past) (done : Bool) → v.denied ≡ false → done ≡ false →
    (draws kind ≡ true → v.granted + bit v.denied ≡ recurrences v.deadline v.driver) → draws kind ≡ true →
    (if draws kind then v.granted + 1 else v.granted) + bit v.denied ≡ recurrences v.deadline v.driver + bit (not done)
recurs_count kind v done undenied undone count drawn =
    rw (drawn, undone, undenied) (let before = rw undenied at (count drawn) in omega (arith, before))

-- where all pass and there is one, the last passes
last_of : {A : Type 0} (test : A → Bool) (xs : List A) → list_all test xs ≡ true → 0 < length xs →
    last_is test xs ≡ true
last_of test [] all some = absurd (omega arith)
last_of test (x ∷ []) all some = (and_parts _ _ all).0
last_of test (x ∷ y ∷ xs) all some = last_of test (y ∷ xs) (and_parts _ _ all).1 (omega arith)

-- what is too late would be another run, since none is under way
pub late_after : {R : Type 0} (v : PastOf R) (now : ℕ) → is_too_late v now ≡ true →
    (is_past v.deadline now ≡ true) × (0 < length v.runs) × (is_under_way v.runs v.begun ≡ false)
late_after v now late =
    let both = and_parts _ _ late in
    let parts = and_parts _ _ both.1 in
    (both.0, ltb-true 0 (length v.runs) parts.0, not_true (is_under_way v.runs v.begun) parts.1)

-- its deadline ends a task that would begin another run
timed_out_law : (kind : Kind) (v : Past) (t : Tick) → Law kind v → IsDue v t → is_too_late v t.now ≡ true →
    Law kind (record v { over = Some DeadlinePassed })
timed_out_law kind v t law due late =
    let now = ready kind v t law due in
    let was = late_after v t.now late in
    record {
      before_last = law.before_last;
      last = law.last ∙ not_final kind v due.unended;
      fed = inl now.fed;
      went_on = law.went_on;
      waited = law.waited;
      counted = inl (idle_length v was.2 law.counted);
      denied = λ yes. same_denied kind v (Some DeadlinePassed) (law.denied yes);
      done = law.done;
      ended = (due.unstopped, last_of (calls kind) v.runs now.all was.1);
      granted = law.granted;
    }

-- whatever may happen in a poll leaves the law
pub law_after : (kind : Kind) (v : Past) (t : Tick) (h : Happened) → Law kind v → May kind v t h →
    Law kind (after kind v t h)
law_after kind v t stays law may = law
law_after kind v t cannot_begin law may =
    refused_law kind v (Some (Broken NoMemory)) law may.0.is_due.unended refl refl may.0.is_due.unstopped
law_after kind v t runs_on law may =
    let due = may.is_due in
    under_way_law kind v t v.over law due (not_final kind v due.unended) (ap may_leave_a_run due.unended)
    (rw (due.unended) due.unstopped)
law_after kind v t cannot_run law may =
    under_way_law kind v t (Some (Broken NoMemory)) law may.is_due refl refl may.is_due.unstopped
law_after kind v t (ends r) law may = finished_law kind v t r law may.0.is_due may.1
law_after kind v t (breaks r fault) law may = broken_law kind v t r fault law may.0.is_due may.1
law_after kind v t (stops_done r) law may =
    let undenied = (ready kind v t law may.0.can.is_due).undenied in
    stepped_law kind v t r (Some ScheduleDone) v.denied v.granted law may.0 refl
    (λ denied. absurd (cc))
    (may.1, undenied)
    (λ drawn. rw may.1 (omega (arith, law.granted drawn)))
law_after kind v t (stops_denied r) law may =
    let undenied = (ready kind v t law may.0.can.is_due).undenied in
    stepped_law kind v t r (Some BudgetRefused) true v.granted law may.0 refl
    (λ _. (may.2, may.1))
    refl
    (λ drawn. rw may.1 (let before = rw undenied at (law.granted drawn) in omega (arith, before)))
law_after kind v t (recurs r) law may =
    let due = may.0.can.is_due in
    let undenied = (ready kind v t law due).undenied in
    stepped_law kind v t r v.over v.denied (if draws kind then v.granted + 1 else v.granted) law may.0
    (not_final kind v due.unended)
    (λ denied. absurd (cc))
    (rw (due.unended) (rw (undenied, may.1) refl))
    (recurs_count kind v (schedule_is_done v.deadline (driven_after v.driver (step_event t r))) undenied may.1
    law.granted)
law_after kind v t times_out law may = timed_out_law kind v t law may.0 may.1

-- and so does giving up
pub law_cancelled : (kind : Kind) (v : Past) → Law kind v → Law kind (cancelled v)
law_cancelled kind v law =
    elim v.over as (λ over. v.over ≡ over → Law kind (record v {
      over =
          if is_some over then over else Some Cancelled;
    })) [
      | None ↦ λ unended. refused_law kind v (Some Cancelled) law unended refl refl (rw unended at law.ended)
      | Some how ↦ λ ended. subst (λ (over : Option How). Law kind (record v { over = over })) ended law
    ] refl

-- a task that has done nothing keeps it
pub undone_yet : (deadline : Option ℕ) (plan : Schedule) → schedule_is_done deadline (unstepped plan) ≡ false
undone_yet None plan = refl
undone_yet (Some end) plan = refl

pub none_planned : (deadline : Option ℕ) (plan : Schedule) → next_start_by deadline (unstepped plan) ≡ None
none_planned None plan = refl
none_planned (Some end) plan = refl

never_past : (deadline : Option ℕ) (now : ℕ) (b : Bool) → (is_past deadline now && (false && b)) ≡ false
never_past deadline now b = grind arith

-- its first run can begin, and go on
pub first_can : (deadline : Option ℕ) (plan : Schedule) (t : Tick) → CanRun (nothing_until plan deadline) t
first_can deadline plan t = record {
  is_due = record { unended = refl; unstopped = undone_yet deadline plan; due = rw (none_planned deadline plan) tt };
  in_time = never_past deadline t.now true;
}

pub first_goes_on : (deadline : Option ℕ) (plan : Schedule) (t tick : Tick) →
    CanRun (record (nothing_until plan deadline) { begun = t.now ∷ [] }) tick
first_goes_on deadline plan t tick = record {
  is_due = record { unended = refl; unstopped = undone_yet deadline plan; due = tt };
  in_time = never_past deadline tick.now false;
}

pub law_of_nothing : (kind : Kind) (plan : Schedule) (deadline : Option ℕ) → Law kind (nothing_until plan deadline)
law_of_nothing kind plan deadline = record {
  before_last = refl;
  last = refl;
  fed = inl refl;
  went_on = λ n some small. absurd (omega arith);
  waited = λ n some small. absurd (omega arith);
  counted = inl refl;
  denied = λ yes. absurd cc;
  done = λ yes. absurd (let undone = undone_yet deadline plan in cc);
  ended = undone_yet deadline plan;
  granted = λ _. refl;
}
