-- The tickets of a retry, and the events of its journal.
use Rattle.std.proofs.Common.{◌≡◌, ℕ, suc, ◌+◌, ◌<◌, Bool, true, false, not, List, [], ◌∷◌, map, take, length, Option}
use Rattle.std.proofs.Common.{Some, None, refl, sym, ap, ◌∙◌, arith}
use Rattle.std.specs.List.{sum_by, count_by}
use Rattle.std.proofs.lemmas.List.Sums.{sum_by-cons}
use Rattle.sched_plan.specs.History.{prefixes}
use Rattle.sched_plan.specs.Answer.{is_done}
use Rattle.sched_plan.specs.declared.history.Event.{Event}
use Rattle.sched_task.specs.declared.endings.How.{How}
use Rattle.sched_task.specs.declared.endings.How.TheVariants.{Won, ScheduleDone, BudgetRefused, DeadlinePassed, Failed}
use Rattle.sched_task_law.specs.Kind.{Kind, repeats}
use Rattle.sched_task_law.specs.Past.{Past, decision_on, schedule_is_done, is_stopped, recurrences, bit}
use Rattle.sched_task_law.specs.Law.{Law, Ended, is_stop, is_refused}
use Rattle.sched_task_law.proofs.Journals.{is_done_some}
use Rattle.sched_task_law.proofs.Law.{or_false}

sum_by-map : {A B : Type 0} (f : B → ℕ) (g : A → B) (xs : List A) → sum_by f (map g xs) ≡ sum_by (λ x. f (g x)) xs
sum_by-map f g [] = refl
sum_by-map f g (x ∷ xs) =
    sum_by-cons f (g x) (map g xs) ∙ ap (λ n. f (g x) + n) (sum_by-map f g xs) ∙ sym (sum_by-cons (λ y. f (g y)) x xs)

-- where each nonempty proper prefix passes, as many prefixes pass as there are elements, less one where the whole fails
passing : (test : List Event → Bool) (e : Event) (h : List Event) →
    ((n : ℕ) → 0 < n → n < length (e ∷ h) → test (take n (e ∷ h)) ≡ true) →
    count_by test (prefixes (e ∷ h)) + bit (not (test (e ∷ h))) ≡ length (e ∷ h)
passing test e [] before = grind arith
passing test e (d ∷ h) before =
    let first : test (e ∷ []) ≡ true = before 1 (omega arith) (omega arith) in
    let rest = passing (λ p. test (e ∷ p)) d h (λ n some small. before (suc n) (omega arith) (omega arith)) in
    let split : count_by test (prefixes (e ∷ d ∷ h)) ≡ bit (test (e ∷ [])) + count_by (λ p. test (e ∷ p))
    (prefixes (d ∷ h)) =
    sum_by-cons (λ p. bit (test p)) (e ∷ []) (map (λ p. e ∷ p) (prefixes (d ∷ h)))
    ∙ ap (λ n. bit (test (e ∷ [])) + n) (sum_by-map (λ p. bit (test p)) (λ p. e ∷ p) (prefixes (d ∷ h))) in
    rw (split, first) (omega (arith, rest))

-- the schedule goes on at each event but the last, where it is done
went : (deadline : Option ℕ) (plan : _) (h : List Event) →
    ((n : ℕ) → 0 < n → n < length h → is_done (decision_on deadline plan (take n h)) ≡ false) →
    recurrences deadline (record { plan = plan; journal = h })
    + bit (schedule_is_done deadline (record { plan = plan; journal = h })) ≡ length h
went None plan [] before = refl
went (Some end) plan [] before = refl
went deadline plan (e ∷ h) before =
    let done = is_done_some deadline (record { plan = plan; journal = e ∷ h }) (omega arith) in
    let all = passing (λ p. not (is_done (decision_on deadline plan p))) e h
    (λ n some small. ap not (before n some small)) in
    rw done (grind (arith, all))

pub undenied : (v : Past) → is_stopped v ≡ false → v.denied ≡ false
undenied v unstopped = (or_false v.denied (schedule_is_done v.deadline v.driver) unstopped).0

none_stopped : (v : Past) → is_stopped v ≡ false → 0 ≡ bit v.denied + bit (schedule_is_done v.deadline v.driver)
none_stopped v unstopped =
    let no = or_false v.denied (schedule_is_done v.deadline v.driver) unstopped in rw (no.0, no.1) refl

stop_bit : (kind : Kind) → repeats kind ≡ false → (v : Past) (over : Option How) → Ended kind v over →
    (v.denied ≡ true → schedule_is_done v.deadline v.driver ≡ false) →
    bit (is_stop over) ≡ bit v.denied + bit (schedule_is_done v.deadline v.driver)
stop_bit kind retries v (Some Won) ended apart = none_stopped v ended.1
stop_bit kind retries v (Some ScheduleDone) ended apart = rw (ended.0, ended.1) refl
stop_bit kind retries v (Some BudgetRefused) ended apart = rw (ended, apart ended) refl
stop_bit kind retries v (Some DeadlinePassed) ended apart = none_stopped v ended.0
stop_bit kind retries v (Some Failed) ended apart = absurd (let bad : true ≡ false = sym ended.0 ∙ retries in cc)
stop_bit kind retries v _ ended apart = none_stopped v ended

-- the tickets of a retry are as many as its events, less one at a stop
pub events_law : (kind : Kind) → repeats kind ≡ false → (v : Past) → Law kind v →
    v.granted + bit (is_stop v.over) ≡ length v.driver.journal
events_law kind retries v law =
    let stops = stop_bit kind retries v v.over law.ended (λ denied. (law.denied denied).undone) in
    let count = law.granted (ap not retries) in
    let events = went v.deadline v.driver.plan v.driver.journal law.went_on in
    omega (arith, stops, count, events)

-- a task is denied where its budget refused it
pub denied_is : (kind : Kind) (v : Past) (over : Option How) → Ended kind v over → v.denied ≡ is_refused over
denied_is kind v (Some Won) ended = undenied v ended.1
denied_is kind v (Some ScheduleDone) ended = ended.1
denied_is kind v (Some BudgetRefused) ended = ended
denied_is kind v (Some DeadlinePassed) ended = undenied v ended.0
denied_is kind v (Some Failed) ended = undenied v ended.1
denied_is kind v _ ended = undenied v ended
