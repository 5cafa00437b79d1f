-- Where the plans of a node stand in its value, by the tables of nodes. bin/nodes makes all_have.
use Rattle.std.proofs.Common.{◌≡◌, ℕ, List, [], ◌∷◌, Bool, Option, Some, None, refl}
use Rattle.std.proofs.lemmas.Bool.{cond_both}
use Rattle.std.specs.Prelude.{bytes_eq, option_map, option_and_then}
use Rattle.serde_json.specs.Data.{Data, null, boolean, number, string, array, object, no_items, item}
use Rattle.serde_json.specs.Find.{at, as_bool}
use Rattle.sched_plan.specs.declared.leaves.Leaf.{Leaf}
use Rattle.sched_plan.specs.declared.nodes.One.{One}
use Rattle.sched_plan.specs.declared.nodes.One.TheVariants.{Gate, Gather, Add, Set, Cap, AddOut, Jitter, Within, EndsBy}
use Rattle.sched_plan.specs.declared.nodes.One.TheVariants.{Renew, RenewIdle, First, Second, Nothing}
use Rattle.sched_plan.specs.declared.nodes.Two.{Two}
use Rattle.sched_plan.specs.declared.nodes.Two.TheVariants.{Meet, Join, Follow, Feed}
use Rattle.sched_plan.specs.declared.nodes.Fold.{Fold}
use Rattle.sched_plan.specs.declared.nodes.Side.{Side}
use Rattle.sched_plan.specs.declared.nodes.Test.{Test}
use Rattle.sched_plan.specs.declared.leaves.Leaf.TheVariants as leaf
use Rattle.sched_plan_json.specs.Words.{sides, tests, folds}
use Rattle.sched_plan_json.specs.Forms.{Part, Spelt, of_leaf, over_one, over_two, Form, Row, spelt_by, number_in}
use Rattle.sched_plan_json.specs.Forms.{word_in, two_numbers_in, three_numbers_in, four_numbers_in, jitter_and_part}
use Rattle.sched_plan_json.specs.Forms.{gate_and_part, gather_and_part, a_number, two_numbers, three_numbers}
use Rattle.sched_plan_json.specs.Forms.{four_numbers, a_plan, a_number_and_a_plan, parameters_and_a_plan, two_plans}
use Rattle.sched_plan_json.specs.Nodes.{from_pairs}
use Rattle.sched_plan_json.specs.PlanOf.{part_of, parts_of, reading_of}
use Rattle.sched_plan_check.specs.PlanFaults.{item_in}

-- an item of a value, or the value itself
abbrev pub value_in : Option ℕ → Data → Option Data
value_in None v = Some v
value_in (Some i) v = at i v

-- the part is what stands there, and it is read as a plan
pub record IsPart (v : Data) (place : Option ℕ) (a : Part) : Type 0 where
  pub stands : value_in place v ≡ Some a.json
  pub reads : a.plan ≡ reading_of a.json

-- the parts of what is spelt stand in the value
abbrev pub HasParts : Data → Option Spelt → Type 0
HasParts v None = Unit {0}
HasParts v (Some (of_leaf l)) = Unit {0}
HasParts v (Some (over_one k a)) = IsPart v (item_in k) a
HasParts v (Some (over_two k a b)) = IsPart v (Some 0) a × IsPart v (Some 1) b

abbrev HasForm : Form → Type 0
HasForm form = (v : Data) → HasParts v (form (part_of v) (parts_of v))

a_leaf : {A : Type 0} (v : Data) (o : Option A) (l : A → Leaf) → HasParts v (option_map (λ x. of_leaf (l x)) o)
a_leaf v None l = tt
a_leaf v (Some x) l = tt

number_has : (l : ℕ → Leaf) → HasForm (a_number l)
number_has l v = a_leaf v (number_in v) l

two_have : (l : ℕ → ℕ → Leaf) → HasForm (two_numbers l)
two_have l v = a_leaf v (two_numbers_in (parts_of v)) (λ n. l n.0 n.1)

three_have : (l : ℕ → ℕ → ℕ → Leaf) → HasForm (three_numbers l)
three_have l v = a_leaf v (three_numbers_in (parts_of v)) (λ n. l n.0 n.1 n.2)

four_have : (l : ℕ → ℕ → ℕ → ℕ → Leaf) → HasForm (four_numbers l)
four_have l v = a_leaf v (four_numbers_in (parts_of v)) (λ n. l n.0 n.1 n.2 n.3)

plan_has : (k : One) → item_in k ≡ None → HasForm (a_plan k)
plan_has k is v = record { stands = rw is refl; reads = refl }

-- [n,A]
number_and : (v b : Data) (k : ℕ → One) (n : Option ℕ) → ((m : ℕ) → value_in (item_in (k m)) v ≡ Some b) →
    HasParts v (option_map (λ (p : ℕ × Part). over_one (k p.0) p.1) (option_map (λ m. (m, part_of b)) n))
number_and v b k None at = tt
number_and v b k (Some m) at = record { stands = at m; reads = refl }

delay_has : (k : ℕ → One) → ((n : ℕ) → item_in (k n) ≡ Some 1) → HasForm (a_number_and_a_plan k)
delay_has k is null = tt
delay_has k is (boolean b) = tt
delay_has k is (number n) = tt
delay_has k is (string s) = tt
delay_has k is (object ms) = tt
delay_has k is (array no_items) = tt
delay_has k is (array (item a no_items)) = tt
delay_has k is (array (item a (item b no_items))) = number_and _ b k (number_in a) (λ n. rw (is n) refl)
delay_has k is (array (item a (item b (item c ds)))) = tt

-- [LANE,least,most,A]
jitter_and : (v a b c d : Data) (lane least most : Option ℕ) → at 3 v ≡ Some d →
    HasParts v (option_map (λ (p : One × Part). over_one p.0 p.1)
    (option_and_then (λ l. option_and_then (λ m. option_map (λ n. (Jitter l m n, part_of d)) most) least) lane))
jitter_and v a b c d None least most is = tt
jitter_and v a b c d (Some l) None most is = tt
jitter_and v a b c d (Some l) (Some m) None is = tt
jitter_and v a b c d (Some l) (Some m) (Some n) is = record { stands = is; reads = refl }

jitter_has : HasForm (parameters_and_a_plan jitter_and_part)
jitter_has null = tt
jitter_has (boolean b) = tt
jitter_has (number n) = tt
jitter_has (string s) = tt
jitter_has (object ms) = tt
jitter_has (array no_items) = tt
jitter_has (array (item a no_items)) = tt
jitter_has (array (item a (item b no_items))) = tt
jitter_has (array (item a (item b (item c no_items)))) = tt
jitter_has (array (item a (item b (item c (item d no_items))))) =
    jitter_and _ a b c d (number_in a) (number_in b) (number_in c) refl
jitter_has (array (item a (item b (item c (item d (item e ds)))))) = tt

-- [SIDE,WANT,TEST,bound,A]
gate_and : (v e : Data) (want : Option Bool) (side : Option Side) (test : Option Test) (bound : Option ℕ)
    → at 4 v ≡ Some e →
    HasParts v (option_map (λ (p : One × Part). over_one p.0 p.1)
    (option_and_then
    (λ w. option_and_then (λ s. option_and_then (λ t. option_map (λ n. (Gate s w t n, part_of e)) bound) test) side)
    want))
gate_and v e None side test bound is = tt
gate_and v e (Some w) None test bound is = tt
gate_and v e (Some w) (Some s) None bound is = tt
gate_and v e (Some w) (Some s) (Some t) None is = tt
gate_and v e (Some w) (Some s) (Some t) (Some n) is = record { stands = is; reads = refl }

gate_has : HasForm (parameters_and_a_plan gate_and_part)
gate_has null = tt
gate_has (boolean b) = tt
gate_has (number n) = tt
gate_has (string s) = tt
gate_has (object ms) = tt
gate_has (array no_items) = tt
gate_has (array (item a no_items)) = tt
gate_has (array (item a (item b no_items))) = tt
gate_has (array (item a (item b (item c no_items)))) = tt
gate_has (array (item a (item b (item c (item d no_items))))) = tt
gate_has (array (item a (item b (item c (item d (item e no_items)))))) =
    gate_and _ e (as_bool b) (word_in sides a) (word_in tests c) (number_in d) refl
gate_has (array (item a (item b (item c (item d (item e (item f ds))))))) = tt

-- [FOLD,A]
gather_and : (v b : Data) (fold : Option Fold) → at 1 v ≡ Some b →
    HasParts v (option_map (λ (p : One × Part). over_one p.0 p.1) (option_map (λ k. (Gather k, part_of b)) fold))
gather_and v b None is = tt
gather_and v b (Some k) is = record { stands = is; reads = refl }

gather_has : HasForm (parameters_and_a_plan gather_and_part)
gather_has null = tt
gather_has (boolean b) = tt
gather_has (number n) = tt
gather_has (string s) = tt
gather_has (object ms) = tt
gather_has (array no_items) = tt
gather_has (array (item a no_items)) = tt
gather_has (array (item a (item b no_items))) = gather_and _ b (word_in folds a) refl
gather_has (array (item a (item b (item c ds)))) = tt

-- [A,B]
pair_has : (k : Two) → HasForm (two_plans k)
pair_has k null = tt
pair_has k (boolean b) = tt
pair_has k (number n) = tt
pair_has k (string s) = tt
pair_has k (object ms) = tt
pair_has k (array no_items) = tt
pair_has k (array (item a no_items)) = tt
pair_has k (array (item a (item b no_items))) =
    (record { stands = refl; reads = refl }, record { stands = refl; reads = refl })
pair_has k (array (item a (item b (item c ds)))) = tt

abbrev HaveForms : List Row → Type 0
HaveForms [] = Unit {0}
HaveForms (row ∷ rows) = HasForm row.1 × HaveForms rows

all_have : HaveForms from_pairs
all_have = (
  pair_has Meet,
  (
    pair_has Join,
    (
      pair_has Follow,
      (
        pair_has Feed,
        (
          delay_has Add (λ n. refl),
          (
            delay_has Set (λ n. refl),
            (
              delay_has Cap (λ n. refl),
              (
                plan_has AddOut refl,
                (
                  jitter_has,
                  (
                    gate_has,
                    (
                      gather_has,
                      (
                        plan_has First refl,
                        (
                          plan_has Second refl,
                          (
                            plan_has Nothing refl,
                            (
                              delay_has Within (λ n. refl),
                              (
                                delay_has EndsBy (λ n. refl),
                                (
                                  delay_has Renew (λ n. refl),
                                  (
                                    delay_has RenewIdle (λ n. refl),
                                    (
                                      number_has leaf.Recurs,
                                      (
                                        number_has leaf.Spaced,
                                        (
                                          number_has leaf.Fixed,
                                          (
                                            number_has leaf.Windowed,
                                            (
                                              number_has leaf.Linear,
                                              (
                                                two_have leaf.Exponential,
                                                (
                                                  two_have leaf.ExponentialMilli,
                                                  (
                                                    number_has leaf.Fibonacci,
                                                    (
                                                      four_have leaf.Decorrelated,
                                                      (
                                                        three_have leaf.Unfold,
                                                        (number_has leaf.Lone, tt),
                                                      ),
                                                    ),
                                                  ),
                                                ),
                                              ),
                                            ),
                                          ),
                                        ),
                                      ),
                                    ),
                                  ),
                                ),
                              ),
                            ),
                          ),
                        ),
                      ),
                    ),
                  ),
                ),
              ),
            ),
          ),
        ),
      ),
    ),
  ),
)

by_rows : (rows : List Row) → HaveForms rows → (name : List ℕ) (v : Data)
    → HasParts v (spelt_by rows name (part_of v) (parts_of v))
by_rows [] all name v = tt
by_rows (row ∷ rows) all name v =
    cond_both (bytes_eq name row.0) (row.1 (part_of v) (parts_of v)) (spelt_by rows name (part_of v) (parts_of v))
    (HasParts v)
    (λ _. all.0 v) (λ _. by_rows rows all.1 name v)

-- the plans of a node stand in its value
pub by_table : (name : List ℕ) (v : Data) → HasParts v (spelt_by from_pairs name (part_of v) (parts_of v))
by_table = by_rows from_pairs all_have
