-- What a reading answers follows from what its parts answer.
use Rattle.std.proofs.Common.{◌≡◌, Bool, true, false, ◌||◌, not, if◌then◌else◌, Option, Some, None, option_map, Result}
use Rattle.std.proofs.Common.{Ok, Err, IsTrue, refl, sym, ◌∙◌, ap, subst}
use Rattle.sched_plan.specs.declared.plans.PlanFault.TheVariants.{OutOfRange, TooDeep, TooMany, NoMemory}
use Rattle.sched_plan_json.specs.declared.faults.ReadFault.{ReadFault}
use Rattle.sched_plan_json.specs.declared.faults.ReadFault.TheVariants.{NotAPlan, Plan}
use Rattle.serde_json.specs.Data.{Data, null, boolean, number, string, array, object, no_members, member}
use Rattle.sched_plan.specs.Schedule.{Schedule, leaf, one, two, node_in_range}
use Rattle.sched_plan.specs.Plan.{built_plan}
use Rattle.sched_plan.specs.declared.plans.PlanFault.{PlanFault}
use Rattle.sched_plan.specs.declared.leaves.Leaf.{Leaf}
use Rattle.sched_plan.specs.declared.nodes.One.{One}
use Rattle.sched_plan.specs.declared.nodes.Two.{Two}
use Rattle.sched_plan_json.specs.Reading.{Reading, Reads, found_value, then_read, read_on, of_builder, built_leaf}
use Rattle.sched_plan_json.specs.Reading.{built_node}
use Rattle.sched_plan_json.specs.Forms.{LacksForm, of_leaf, over_one, over_two, meant_by}
use Rattle.sched_plan_json.specs.Nodes.{names}
use Rattle.sched_plan_json.specs.PlanOf.{both_plans, part_of, reading_of, reading_of_leaf, reading_of_node, spelt_of}

asked_first : (a b : Bool) → IsTrue a → IsTrue (a || b)
asked_first true b h = refl
asked_first false b h = cc

asked_later : (a b : Bool) → IsTrue b → IsTrue (a || b)
asked_later true b h = refl
asked_later false b h = h

asked_on : {A B : Type 0} (asked : Bool) (answer : Result A ReadFault) (next : A → Reading B)
    → IsTrue asked → IsTrue (read_on asked answer next).asked
asked_on asked (Ok x) next h = asked_first asked (next x).asked h
asked_on asked (Err fault) next h = h

-- after the first part was found, the whole answers what the rest does
pub reads_then : {A B : Type 0} (answer : Result B ReadFault) (r : Reading A) (next : A → Reading B) (x : A)
    → Ok x ≡ r.answer → Reads answer (next x) → Reads answer (then_read r next)
reads_then (Ok y) r next x e h = rw (← e) h
reads_then (Err NotAPlan) r next x e h = rw (← e) h
reads_then (Err (Plan OutOfRange)) r next x e h = rw (← e) h
reads_then (Err (Plan TooDeep)) r next x e h = rw (← e) h
reads_then (Err (Plan TooMany)) r next x e h = rw (← e) h
reads_then (Err (Plan NoMemory)) r next x e h = rw (← e) (asked_later r.asked (next x).asked h)

-- a fault of the first part is one of the whole
pub reads_fault : {A B : Type 0} (fault : ReadFault) (r : Reading A) (next : A → Reading B)
    → Reads {A = A} (Err fault) r → Reads {A = B} (Err fault) (then_read r next)
reads_fault NotAPlan r next h = rw (← h) refl
reads_fault (Plan OutOfRange) r next h = rw (← h) refl
reads_fault (Plan TooDeep) r next h = rw (← h) refl
reads_fault (Plan TooMany) r next h = rw (← h) refl
reads_fault (Plan NoMemory) r next h = asked_on r.asked r.answer next h

-- what comes of reading a value is what comes of the node that it spells
leaf_alike : (l : Option Leaf) → reading_of_leaf l ≡ reading_of_node (option_map of_leaf l)
leaf_alike None = refl
leaf_alike (Some l) = refl

pub reading_of_spelt : (d : Data) → reading_of d ≡ reading_of_node (spelt_of d)
reading_of_spelt null = refl
reading_of_spelt (boolean b) = refl
reading_of_spelt (number n) = refl
reading_of_spelt (string name) = leaf_alike (meant_by names name)
reading_of_spelt (array items) = refl
reading_of_spelt (object no_members) = refl
reading_of_spelt (object (member name value no_members)) = refl
reading_of_spelt (object (member name value (member other more members))) = refl

-- a leaf's builder refuses it as out of range alone
built_reads : (in_range : Bool) (s : Schedule) → let made = if not in_range then Err OutOfRange else Ok s in
    Reads (of_builder made) (record { answer = of_builder made; asked = false })
built_reads true s = refl
built_reads false s = refl

pub leaf_reads : (l : Leaf) (made : Result Schedule PlanFault) (answer : Result Schedule ReadFault) →
    made ≡ built_plan (leaf l) → answer ≡ of_builder made → Reads answer (built_leaf l)
leaf_reads l made answer e is = rw is (rw e (built_reads (node_in_range (leaf l)) (leaf l)))

-- a leaf answers what its builder does
pub leaf_read : (d : Data) (l : Leaf) (answer : Result Schedule ReadFault) → spelt_of d ≡ Some (of_leaf l) →
    Reads answer (built_leaf l) → Reads answer (reading_of d)
leaf_read d l answer spelt h = subst (Reads answer) (sym (reading_of_spelt d ∙ ap reading_of_node spelt)) h

-- a value that has not the form of a node is no plan
pub lacking_read : (d : Data) (fault : ReadFault) → LacksForm (spelt_of d) fault
    → Reads {A = Schedule} (Err fault) (reading_of d)
lacking_read d fault h =
    rw h.0 (subst (Reads {A = Schedule} (Err NotAPlan)) (sym (reading_of_spelt d ∙ ap reading_of_node h.1)) refl)

-- of two plans the first was read, and the second gave a fault
pub both_plans-second : (a b : Data) (first : Schedule) (fault : ReadFault)
    → Ok first ≡ (reading_of a).answer → Reads {A = Schedule} (Err fault) (reading_of b)
    → Reads {A = Schedule × Schedule} (Err fault) (both_plans (part_of a) (part_of b))
both_plans-second a b first fault is h =
    let next : Schedule → Reading (Schedule × Schedule) = λ x. then_read (reading_of b) (λ y. found_value (x, y)) in
    let second : Reads {A = Schedule × Schedule} (Err fault) (next first) =
    reads_fault fault (reading_of b) (λ y. found_value (first, y)) h in
    reads_then (Err fault) (reading_of a) next first is second

-- a node over one plan: its reading is that of the plan and then of the node
pub reading_of_one : (d a : Data) (k : One) → spelt_of d ≡ Some (over_one k (part_of a)) →
    reading_of d ≡ then_read (reading_of a) (λ s. built_node (one k s))
reading_of_one d a k e = reading_of_spelt d ∙ ap reading_of_node e

-- a node over two plans: its reading is that of both and then of the node
pub reading_of_two : (d a b : Data) (k : Two) → spelt_of d ≡ Some (over_two k (part_of a) (part_of b)) →
    reading_of d ≡ then_read (both_plans (part_of a) (part_of b)) (λ p. built_node (two k p.0 p.1))
reading_of_two d a b k e = reading_of_spelt d ∙ ap reading_of_node e

-- a node over one plan answers what its builder does of the plan that was read, or the plan's fault
pub one_read : (d a : Data) (k : One) (s : Schedule) (answer : Result Schedule ReadFault)
    → spelt_of d ≡ Some (over_one k (part_of a)) →
    Reads (Ok s) (reading_of a) → Reads answer (built_node (one k s)) → Reads answer (reading_of d)
one_read d a k s answer spelt is h =
    subst (Reads answer) (sym (reading_of_one d a k spelt))
    (reads_then answer (reading_of a) (λ x. built_node (one k x)) s is h)

pub one_fault : (d a : Data) (k : One) (fault : ReadFault) → spelt_of d ≡ Some (over_one k (part_of a)) →
    Reads {A = Schedule} (Err fault) (reading_of a) → Reads {A = Schedule} (Err fault) (reading_of d)
one_fault d a k fault spelt h =
    subst (Reads {A = Schedule} (Err fault)) (sym (reading_of_one d a k spelt))
    (reads_fault fault (reading_of a) (λ x. built_node (one k x)) h)

module _ (d a b : Data) (k : Two) (spelt : spelt_of d ≡ Some (over_two k (part_of a) (part_of b))) where
  whole : (answer : Result Schedule ReadFault) →
      Reads answer (then_read (both_plans (part_of a) (part_of b)) (λ p. built_node (two k p.0 p.1)))
      → Reads answer (reading_of d)
  whole answer h = subst (Reads answer) (sym (reading_of_two d a b k spelt)) h

  -- a node over two plans answers what its builder does of both, or the first fault from the left
  pub two_first_fault : (fault : ReadFault) → Reads {A = Schedule} (Err fault) (reading_of a)
      → Reads {A = Schedule} (Err fault) (reading_of d)
  two_first_fault fault h =
      whole (Err fault)
      (reads_fault fault (both_plans (part_of a) (part_of b)) (λ p. built_node (two k p.0 p.1))
      (reads_fault fault (reading_of a) (λ x. then_read (reading_of b) (λ y. found_value (x, y))) h))

  pub two_second_fault : (s : Schedule) (fault : ReadFault) → Reads (Ok s) (reading_of a)
      → Reads {A = Schedule} (Err fault) (reading_of b) →
      Reads {A = Schedule} (Err fault) (reading_of d)
  two_second_fault s fault is h =
      whole (Err fault)
      (reads_fault fault (both_plans (part_of a) (part_of b)) (λ p. built_node (two k p.0 p.1))
      (both_plans-second a b s fault is h))

  pub two_read : (s t : Schedule) (answer : Result Schedule ReadFault) → Reads (Ok s) (reading_of a)
      → Reads (Ok t) (reading_of b) →
      Reads answer (built_node (two k s t)) → Reads answer (reading_of d)
  two_read s t answer is also h =
      let both : Ok (s, t) ≡ (both_plans (part_of a) (part_of b)).answer =
      reads_then (Ok (s, t)) (reading_of a) (λ x. then_read (reading_of b) (λ y. found_value (x, y))) s is
      (reads_then (Ok (s, t)) (reading_of b) (λ y. found_value (s, y)) t also refl) in
      whole answer
      (reads_then answer (both_plans (part_of a) (part_of b)) (λ p. built_node (two k p.0 p.1)) (s, t) both h)
