-- What is true of the first fault of a plan and of its place.
use Rattle.std.proofs.Common.{◌≡◌, inl, inr, ℕ, List, [], ◌∷◌, ◌++◌, Option, Some, None, Result, Ok, Err, refl, ap, ◌∙◌}
use Rattle.std.proofs.Common.{subst}
use Rattle.std.specs.Prelude.{option_and_then, option_map}
use Rattle.serde_json.specs.Data.{Data, null, boolean, number, string, array, object, no_members, member}
use Rattle.serde_json.specs.Find.{get, at}
use Rattle.serde_json.proofs.Views.{get_member-put}
use Rattle.sched_plan.specs.Schedule.{Schedule}
use Rattle.sched_plan.specs.declared.leaves.Leaf.{Leaf}
use Rattle.sched_plan_json.specs.declared.faults.ReadFault.{ReadFault}
use Rattle.sched_plan_json.specs.Reading.{Reading, then_read, found_value}
use Rattle.sched_plan_json.specs.Forms.{Part, Spelt, of_leaf, over_one, over_two, meant_by}
use Rattle.sched_plan_json.specs.Nodes.{names}
use Rattle.sched_plan_json.specs.PlanOf.{plan_of, spelt_of, reading_of, reading_of_node, both_plans}
use Rattle.sched_plan_json.proofs.Readings.{reading_of_spelt}
use Rattle.sched_plan_check.specs.Places.{Into, key, index, value_at}
use Rattle.sched_plan_check.specs.PlanFaults.{IsNext, item_in, plans_in, name_in, steps_to, FirstFault, own, below}
use Rattle.sched_plan_check.proofs.Tables.{value_in, IsPart, HasParts, by_table}

-- the plan of a node stands in its value, and is read there
record StandsIn (d : Data) (item : Option ℕ) (a : Part) : Type 0 where
  stands : value_at (steps_to (name_in d) item) d ≡ Some a.json
  reads : a.plan ≡ reading_of a.json

abbrev HasPlans : Data → Option Spelt → Type 0
HasPlans d None = Unit {0}
HasPlans d (Some (of_leaf l)) = Unit {0}
HasPlans d (Some (over_one k a)) = StandsIn d (item_in k) a
HasPlans d (Some (over_two k a b)) = StandsIn d (Some 0) a × StandsIn d (Some 1) b

own_member : (name : List ℕ) (v : Data) → get name (object (member name v no_members)) ≡ Some v
own_member name v = get_member-put name v no_members

stands_in : (name : List ℕ) (v a : Data) (item : Option ℕ) → value_in item v ≡ Some a →
    value_at (steps_to name item) (object (member name v no_members)) ≡ Some a
stands_in name v a None is = rw (own_member name v) is
stands_in name v a (Some i) is = rw (own_member name v, is) refl

part_has : (name : List ℕ) (v : Data) (item : Option ℕ) (a : Part) → IsPart v item a
    → StandsIn (object (member name v no_members)) item a
part_has name v item a has = record { stands = stands_in name v a.json item has.stands; reads = has.reads }

member_has : (name : List ℕ) (v : Data) (spelt : Option Spelt) → HasParts v spelt
    → HasPlans (object (member name v no_members)) spelt
member_has name v None has = tt
member_has name v (Some (of_leaf l)) has = tt
member_has name v (Some (over_one k a)) has = part_has name v (item_in k) a has
member_has name v (Some (over_two k a b)) has = (part_has name v (Some 0) a has.0, part_has name v (Some 1) b has.1)

leaf_has : (d : Data) (l : Option Leaf) → HasPlans d (option_map of_leaf l)
leaf_has d None = tt
leaf_has d (Some l) = tt

has_plans : (d : Data) → HasPlans d (spelt_of d)
has_plans null = tt
has_plans (boolean b) = tt
has_plans (number n) = tt
has_plans (array ds) = tt
has_plans (string name) = leaf_has (string name) (meant_by names name)
has_plans (object no_members) = tt
has_plans (object (member name v no_members)) = member_has name v _ (by_table name v)
has_plans (object (member name v (member other w ms))) = tt

-- a plan of the node stands at its steps
next_stands : (d : Data) (spelt : Option Spelt) → HasPlans d spelt → (item : Option ℕ) (a : Data)
    → IsNext (plans_in spelt) item a →
    value_at (steps_to (name_in d) item) d ≡ Some a
next_stands d None has item a next = absurd next
next_stands d (Some (of_leaf l)) has item a next = absurd next
next_stands d (Some (over_one k b)) has item a (inl e) =
    subst (λ p. value_at (steps_to (name_in d) p.0) d ≡ Some p.1) e has.stands
next_stands d (Some (over_one k b)) has item a (inr later) = absurd later.1
next_stands d (Some (over_two k b c)) has item a (inl e) =
    subst (λ p. value_at (steps_to (name_in d) p.0) d ≡ Some p.1) e has.0.stands
next_stands d (Some (over_two k b c)) has item a (inr (read, inl e)) =
    subst (λ p. value_at (steps_to (name_in d) p.0) d ≡ Some p.1) e has.1.stands
next_stands d (Some (over_two k b c)) has item a (inr (read, inr later)) = absurd later.1

-- the steps of one place after those of another
onto : (before after : List Into) (o : Option Data)
    → ((d : Data) → value_at (before ++ after) d ≡ option_and_then (value_at after) (value_at before d))
    → option_and_then (value_at (before ++ after)) o
    ≡ option_and_then (value_at after) (option_and_then (value_at before) o)
onto before after None law = refl
onto before after (Some d) law = law d

value_at-append : (before after : List Into) (d : Data)
    → value_at (before ++ after) d ≡ option_and_then (value_at after) (value_at before d)
value_at-append [] after d = refl
value_at-append (key name ∷ before) after d = onto before after (get name d) (value_at-append before after)
value_at-append (index i ∷ before) after d = onto before after (at i d) (value_at-append before after)

-- the place leads to the value
pub leads : (fault : ReadFault) (d : Data) (place : List Into) (v : Data) → FirstFault fault d place v
    → value_at place d ≡ Some v
leads fault d place v (own _ is all) = refl
leads fault d place v (below _ a _ item rest next first) =
    value_at-append (steps_to (name_in d) item) rest d
    ∙ ap (option_and_then (value_at rest)) (next_stands d (spelt_of d) (has_plans d) item a next)
    ∙ leads fault a rest v first

-- the value has the fault
pub refused : (fault : ReadFault) (d : Data) (place : List Into) (v : Data) → FirstFault fault d place v
    → plan_of v ≡ Err fault
refused fault d place v (own _ is all) = is
refused fault d place v (below _ a _ item rest next first) = refused fault a rest v first

-- what was found is read on from, and a fault is that of the whole
pub found_first : {A B : Type 0} (r : Reading A) (next : A → Reading B) (x : A) → r.answer ≡ Ok x
    → (then_read r next).answer ≡ (next x).answer
found_first r next x is = rw is refl

pub fault_first : {A B : Type 0} (r : Reading A) (next : A → Reading B) (fault : ReadFault) → r.answer ≡ Err fault
    → (then_read r next).answer ≡ Err fault
fault_first r next fault is = rw is refl

-- a fault of the first plan that is refused is that of the node
two_fault : (a b : Part) (fault : ReadFault) (next : Schedule × Schedule → Reading Schedule)
    → a.plan.answer ≡ Err fault →
    (then_read (both_plans a b) next).answer ≡ Err fault
two_fault a b fault next is = fault_first (both_plans a b) next fault (fault_first a.plan _ fault is)

two_later : (a b : Part) (fault : ReadFault) (next : Schedule × Schedule → Reading Schedule) (s : Schedule)
    → a.plan.answer ≡ Ok s →
    b.plan.answer ≡ Err fault → (then_read (both_plans a b) next).answer ≡ Err fault
two_later a b fault next s read is =
    fault_first (both_plans a b) next fault
    (found_first a.plan _ s read ∙ fault_first b.plan (λ second. found_value (s, second)) fault is)

answers : (a : Part) (d : Data) (answer : Result Schedule ReadFault) → a.plan ≡ reading_of a.json → a.json ≡ d
    → plan_of d ≡ answer → a.plan.answer ≡ answer
answers a d answer reads same is = ap (λ r. r.answer) reads ∙ ap plan_of same ∙ is

next_fault : (d : Data) (spelt : Option Spelt) → HasPlans d spelt → (item : Option ℕ) (a : Data) (fault : ReadFault)
    → IsNext (plans_in spelt) item a →
    plan_of a ≡ Err fault → (reading_of_node spelt).answer ≡ Err fault
next_fault d None has item a fault next is = absurd next
next_fault d (Some (of_leaf l)) has item a fault next is = absurd next
next_fault d (Some (over_one k b)) has item a fault (inl e) is =
    fault_first b.plan _ fault (answers b a (Err fault) has.reads (ap (λ p. p.1) e) is)
next_fault d (Some (over_one k b)) has item a fault (inr later) is = absurd later.1
next_fault d (Some (over_two k b c)) has item a fault (inl e) is =
    two_fault b c fault _ (answers b a (Err fault) has.0.reads (ap (λ p. p.1) e) is)
next_fault d (Some (over_two k b c)) has item a fault (inr (read, inl e)) is =
    two_later b c fault _ read.0 (answers b b.json (Ok read.0) has.0.reads refl read.1)
    (answers c a (Err fault) has.1.reads (ap (λ p. p.1) e) is)
next_fault d (Some (over_two k b c)) has item a fault (inr (read, inr later)) is = absurd later.1

-- the fault is that of the whole
pub whole : (fault : ReadFault) (d : Data) (place : List Into) (v : Data) → FirstFault fault d place v
    → plan_of d ≡ Err fault
whole fault d place v (own _ is all) = is
whole fault d place v (below _ a _ item rest next first) =
    ap (λ r. r.answer) (reading_of_spelt d)
    ∙ next_fault d (spelt_of d) (has_plans d) item a fault next (whole fault a rest v first)
