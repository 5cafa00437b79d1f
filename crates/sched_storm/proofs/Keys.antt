-- Keys: what one stands for, and what an agenda of them holds where one is put in or taken out.
use Rattle.std.proofs.Common.{◌≡◌, ℕ, suc, ◌+◌, ◌*◌, ◌/◌, ◌%◌, ◌<◌, ◌≤◌, Bool, true, false, cond, eqb}
use Rattle.std.proofs.Common.{eqb-true, eq-eqb, Result, Ok, Err, OnOk, Option, Some, None, refl, sym, ◌∙◌, ap, subst}
use Rattle.std.proofs.Common.{arith, add-zero, zero-add}
use Rattle.std.proofs.lemmas.Bool.{false≢true}
use Rattle.sched_calendar.specs.Keys.{one_if}
use Rattle.sched_calendar.specs.Calendar.{times, ComesFirst as NoneBefore}
use Rattle.sched_calendar.specs.declared.calendar.Calendar.{Calendar}
use Rattle.sched_storm_report.specs.declared.moments.Failure.TheVariants.{Refused, Shed, Late}
use Rattle.sched_storm_trace.specs.Trace.{updated}
use Rattle.sched_storm.specs.Keys.{code_of, kind_from, key_of, request_in, turn_of, is_this, is_due}
use Rattle.sched_storm.specs.Keys.{AreHeld, ComesFirst, bound_of}
use Rattle.sched_storm.specs.declared.turns.Kind.{Kind}
use Rattle.sched_storm.specs.declared.turns.Kind.TheVariants.{Begins, Retries, Succeeds, Fails}
use Rattle.sched_storm.specs.declared.turns.Turn.{Turn}

-- ---- what a key stands for

code_few : (k : Kind) → code_of k < 8
code_few Begins = omega arith
code_few Retries = omega arith
code_few Succeeds = omega arith
code_few (Fails Refused) = omega arith
code_few (Fails Shed) = omega arith
code_few (Fails Late) = omega arith

kind_back : (k : Kind) → kind_from (code_of k) ≡ k
kind_back Begins = refl
kind_back Retries = refl
kind_back Succeeds = refl
kind_back (Fails Refused) = refl
kind_back (Fails Shed) = refl
kind_back (Fails Late) = refl

place_in : (a r c : ℕ) → c < 8 → ((a * 1048576 + r) * 8 + c) / 8 ≡ a * 1048576 + r
place_in a r c h = omega arith

rest_in : (a r c : ℕ) → c < 8 → ((a * 1048576 + r) * 8 + c) % 8 ≡ c
rest_in a r c h = omega arith

pub request_back : (t : Turn) → t.request < 1048576 → request_in (key_of t) ≡ t.request
request_back t h =
    let few = code_few t.kind in
    let place = place_in t.at t.request (code_of t.kind) few in
    omega arith

at_back : (t : Turn) → t.request < 1048576 → key_of t / 8 / 1048576 ≡ t.at
at_back t h =
    let few = code_few t.kind in
    let place = place_in t.at t.request (code_of t.kind) few in
    omega arith

pub turn_back : (t : Turn) → t.request < 1048576 → turn_of (key_of t) ≡ t
turn_back t h =
    let at = at_back t h in
    let request = request_back t h in
    let kind = ap kind_from (rest_in t.at t.request (code_of t.kind) (code_few t.kind)) ∙ kind_back t.kind in
    λ i. record { at = at i; request = request i; kind = kind i }

-- keys ascend by moment, and at one moment by the number of the request
pub key_order : (s t : Turn) → s.request < 1048576 → t.request < 1048576 → key_of s ≤ key_of t → s.at ≤ t.at
key_order s t h k e =
    let few = code_few s.kind in
    let less = code_few t.kind in
    omega arith

pub key_order_at : (s t : Turn) → s.request < 1048576 → t.request < 1048576 → key_of s ≤ key_of t → s.at ≡ t.at →
    s.request ≤ t.request
key_order_at s t h k e same =
    let few = code_few s.kind in
    let less = code_few t.kind in
    omega arith

-- ---- what an agenda holds

is_this_one : (k : ℕ) (o : Option ℕ) → is_this k o ≡ true → o ≡ Some k
is_this_one k None h = absurd (false≢true h)
is_this_one k (Some q) h = ap Some (eqb-true q k h)

one_at_most : (b : Bool) (n : ℕ) → suc n ≡ cond b 1 0 → (b ≡ true) × (n ≡ 0)
one_at_most true n h = (refl, omega arith)
one_at_most false n h = absurd (omega arith)

not_eqb : (a b : ℕ) (e : Bool) → eqb a b ≡ e → (a ≡ b → ⊥) → e ≡ false
not_eqb a b true s h = absurd (h (eqb-true a b s))
not_eqb a b false s h = refl

-- one key more, of a request of which nothing was due
times_with : (keys : ℕ → Option ℕ) (new k times : ℕ) → keys (request_in new) ≡ None →
    times ≡ cond (is_due keys k) 1 0 → (b : Bool) →
    eqb (request_in new) (request_in k) ≡ b → cond (eqb new k) 1 0 + times
    ≡ cond (is_this k (cond b (Some new) (keys (request_in k)))) 1 0
times_with keys new k times was h true s =
    let same : request_in new ≡ request_in k = eqb-true (request_in new) (request_in k) s in
    let none : keys (request_in k) ≡ None = subst (λ r. keys r ≡ None) same was in
    let count : times ≡ 0 = h ∙ ap {B = ℕ} (λ o. cond (is_this k o) 1 0) none in
    rw count (add-zero (cond (eqb new k) 1 0))
times_with keys new k times was h false s =
    let other : eqb new k ≡ false = not_eqb new k (eqb new k) refl
    (λ same. false≢true (sym s ∙ eq-eqb (request_in new) (request_in k) (ap request_in same))) in
    rw other (zero-add times ∙ h)

pub put_in : (old new : ℕ → ℕ) (keys : ℕ → Option ℕ) (key : ℕ) → AreHeld old keys → keys (request_in key) ≡ None →
    ((k : ℕ) → new k ≡ one_if key k + old k) → AreHeld new (updated keys (request_in key) (Some key))
put_in old new keys key h was put = record {
  each = λ k. put k ∙ times_with keys key k (old k) was (h.each k) (eqb (request_in key) (request_in k)) refl;
}

pub put_turn : (old new : ℕ → ℕ) (keys : ℕ → Option ℕ) (turn : Turn) → turn.request < 1048576 → AreHeld old keys →
    keys turn.request ≡ None → ((k : ℕ) → new k ≡ one_if (key_of turn) k + old k) →
    AreHeld new (updated keys turn.request (Some (key_of turn)))
put_turn old new keys turn few h was put =
    let back = request_back turn few in
    subst (λ r. AreHeld new (updated keys r (Some (key_of turn)))) back
    (put_in old new keys (key_of turn) h (subst (λ r. keys r ≡ None) (sym back) was) put)

-- one key less
times_without : (keys : ℕ → Option ℕ) (gone k times : ℕ) → keys (request_in gone) ≡ Some gone →
    cond (eqb gone k) 1 0 + times ≡ cond (is_due keys k) 1 0 → (b : Bool) → eqb (request_in gone) (request_in k) ≡ b →
    times ≡ cond (is_this k (cond b None (keys (request_in k)))) 1 0
times_without keys gone k times was h true s =
    let same : request_in gone ≡ request_in k = eqb-true (request_in gone) (request_in k) s in
    let due : keys (request_in k) ≡ Some gone = subst (λ r. keys r ≡ Some gone) same was in
    let both : cond (eqb gone k) 1 0 + times ≡ cond (eqb gone k) 1 0 =
    h ∙ ap {B = ℕ} (λ o. cond (is_this k o) 1 0) due in
    omega arith
times_without keys gone k times was h false s =
    let other : eqb gone k ≡ false = not_eqb gone k (eqb gone k) refl
    (λ same. false≢true (sym s ∙ eq-eqb (request_in gone) (request_in k) (ap request_in same))) in
    sym (zero-add times) ∙ (ap {B = ℕ} (λ b. cond b 1 0 + times) (sym other) ∙ h)

-- a key that is taken out was that of what was due of its request
pub was_due : (old new : ℕ → ℕ) (keys : ℕ → Option ℕ) (x : ℕ) → AreHeld old keys →
    ((k : ℕ) → old k ≡ one_if x k + new k) → keys (request_in x) ≡ Some x
was_due old new keys x h taken =
    let here : one_if x x ≡ 1 = ap {B = ℕ} (λ b. cond b 1 0) (eq-eqb x x refl) in
    let all = taken x in
    let each = h.each x in
    let count : suc (new x) ≡ cond (is_due keys x) 1 0 = omega arith in
    is_this_one x (keys (request_in x)) (one_at_most (is_due keys x) (new x) count).0

pub taken_out : (old new : ℕ → ℕ) (keys : ℕ → Option ℕ) (x : ℕ) → AreHeld old keys →
    ((k : ℕ) → old k ≡ one_if x k + new k) → AreHeld new (updated keys (request_in x) None)
taken_out old new keys x h taken = record {
  each = λ k. times_without keys x k (new k) (was_due old new keys x h taken) (sym (taken k) ∙ h.each k)
      (eqb (request_in x) (request_in k)) refl;
}

-- ---- what is least

pub due_is_there : (times : ℕ → ℕ) (keys : ℕ → Option ℕ) (r k : ℕ) → AreHeld times keys → keys r ≡ Some k →
    request_in k ≡ r → times k ≡ 1
due_is_there times keys r k h due of =
    let at : keys (request_in k) ≡ Some k = subst (λ q. keys q ≡ Some k) (sym of) due in
    h.each k ∙ (ap {B = ℕ} (λ o. cond (is_this k o) 1 0) at ∙ ap {B = ℕ} (λ b. cond b 1 0) (eq-eqb k k refl))

pub least_due : (times : ℕ → ℕ) (keys : ℕ → Option ℕ) (x r k : ℕ) → AreHeld times keys →
    ((q : ℕ) → 0 < times q → x ≤ q) → keys r ≡ Some k → request_in k ≡ r → x ≤ k
least_due times keys x r k h least due of = least k (let there = due_is_there times keys r k h due of in omega arith)

pub none_held : (times : ℕ → ℕ) → ((k : ℕ) → times k ≡ 0) → AreHeld times (λ _. None)
none_held times none = record { each = none }

pub same_held : (old new : ℕ → ℕ) (keys : ℕ → Option ℕ) → ((k : ℕ) → new k ≡ old k) → AreHeld old keys →
    AreHeld new keys
same_held old new keys same h = record { each = λ k. same k ∙ h.each k }

-- what is next comes before all that is due, where no key comes before it
pub first_of : (c : Calendar) (keys : ℕ → Option ℕ) (o : Option Turn) → AreHeld (times c) keys →
    NoneBefore c (bound_of o) → ComesFirst keys o
first_of c keys None h none = λ r k due of.
    (let there = due_is_there (times c) keys r k h due of in let gone = none k in absurd (omega arith))
first_of c keys (Some t) h least = λ r k due of. least_due (times c) keys (key_of t) r k h least due of

-- what is put in, where there was memory for it
pub put_by : {E : Type 0} (old new : Calendar) (keys : ℕ → Option ℕ) (turn : Turn) (key : ℕ)
    (r : Result (Unit {0}) E) → turn.request < 1048576 → AreHeld (times old) keys → keys turn.request ≡ None →
    key ≡ key_of turn → OnOk r ((k : ℕ) → times new k ≡ one_if key k + times old k) →
    OnOk r (AreHeld (times new) (updated keys turn.request (Some (key_of turn))))
put_by old new keys turn key (Err e) few h none is put = tt
put_by old new keys turn key (Ok u) few h none is put =
    put_turn (times old) (times new) keys turn few h none
    (subst (λ x. (k : ℕ) → times new k ≡ one_if x k + times old k) is put)
