-- The forms that a node's value may have, each told by how the text of such a node looks.
use Rattle.std.specs.Prelude.{◌≡◌, ℕ, if◌then◌else◌, bytes_eq, List, [], ◌∷◌, Option, Some, None, option_map}
use Rattle.std.specs.Prelude.{option_and_then}
use Rattle.serde_json.specs.Data.{Data}
use Rattle.serde_json.specs.Find.{as_bool, as_number, as_str, as_u64}
use Rattle.sched_plan.specs.Schedule.{Schedule}
use Rattle.sched_plan.specs.declared.leaves.Leaf.{Leaf}
use Rattle.sched_plan.specs.declared.nodes.One.{One}
use Rattle.sched_plan.specs.declared.nodes.One.TheVariants.{Gate, Gather, Jitter}
use Rattle.sched_plan.specs.declared.nodes.Two.{Two}
use Rattle.sched_plan_json.specs.declared.faults.ReadFault.{ReadFault}
use Rattle.sched_plan_json.specs.declared.faults.ReadFault.TheVariants.{NotAPlan}
use Rattle.sched_plan_json.specs.Reading.{Reading}
use Rattle.sched_plan_json.specs.Words.{sides, tests, folds}

-- a part of a node: its JSON, and what comes of reading it as a plan
pub record Part : Type 0 where
  pub json : Data
  pub plan : Reading Schedule

-- what a node's own form spells: a leaf, or what the node makes of one plan or of two
pub data Spelt : Type 0 where
  of_leaf : Leaf → Spelt
  over_one : One → Part → Spelt
  over_two : Two → Part → Part → Spelt

-- what a node spells by its value and the items of that value, if they have its form
abbrev pub Form : Type 0
Form = Part → List Part → Option Spelt

-- a node's name and its form
abbrev pub Row : Type 0
Row = List ℕ × Form

-- what the node of this name spells, by a table of nodes
abbrev pub spelt_by : List Row → List ℕ → Part → List Part → Option Spelt
spelt_by [] name value items = None
spelt_by (row ∷ rows) name value items =
    if bytes_eq name row.0 then row.1 value items else spelt_by rows name value items

-- what a word means, by a table of words
abbrev pub meant_by : {A : Type 0} → List (List ℕ × A) → List ℕ → Option A
meant_by [] word = None
meant_by (row ∷ rows) word = if bytes_eq word row.0 then Some row.1 else meant_by rows word

abbrev pub word_in : {A : Type 0} → List (List ℕ × A) → Data → Option A
word_in words d = option_and_then (meant_by words) (as_str d)

-- a whole number from 0 to 2^64 - 1
abbrev pub number_in : Data → Option ℕ
number_in d = option_and_then as_u64 (as_number d)

-- the items, where there are exactly two, three, four or five
abbrev pub two_of : {A : Type 0} → List A → Option (A × A)
two_of (a ∷ b ∷ []) = Some (a, b)
two_of _ = None

abbrev pub three_of : {A : Type 0} → List A → Option (A × A × A)
three_of (a ∷ b ∷ c ∷ []) = Some (a, b, c)
three_of _ = None

abbrev pub four_of : {A : Type 0} → List A → Option (A × A × A × A)
four_of (a ∷ b ∷ c ∷ d ∷ []) = Some (a, b, c, d)
four_of _ = None

abbrev pub five_of : {A : Type 0} → List A → Option (A × A × A × A × A)
five_of (a ∷ b ∷ c ∷ d ∷ e ∷ []) = Some (a, b, c, d, e)
five_of _ = None

-- the items do not have this form, and the fault says that the value is no plan
abbrev pub LacksForm : {A : Type 0} → Option A → ReadFault → Type 0
LacksForm form fault = (fault ≡ NotAPlan) × (form ≡ None)

-- [n,m]
abbrev pub two_numbers_in : List Part → Option (ℕ × ℕ)
two_numbers_in items =
    option_and_then (λ p.
    option_and_then (λ n.
    option_map (λ m. (n, m))
    (number_in p.1.json)) (number_in p.0.json)) (two_of items)

-- [n,m,k]
abbrev pub three_numbers_in : List Part → Option (ℕ × ℕ × ℕ)
three_numbers_in items =
    option_and_then (λ p.
    option_and_then (λ n.
    option_and_then (λ m.
    option_map (λ k. (n, m, k))
    (number_in p.2.json)) (number_in p.1.json)) (number_in p.0.json)) (three_of items)

-- [n,m,k,l]
abbrev pub four_numbers_in : List Part → Option (ℕ × ℕ × ℕ × ℕ)
four_numbers_in items =
    option_and_then (λ p.
    option_and_then (λ n.
    option_and_then (λ m.
    option_and_then (λ k.
    option_map (λ l. (n, m, k, l))
    (number_in p.3.json)) (number_in p.2.json)) (number_in p.1.json)) (number_in p.0.json)) (four_of items)

-- [n,A]
abbrev pub number_and_part : List Part → Option (ℕ × Part)
number_and_part items = option_and_then (λ p. option_map (λ n. (n, p.1)) (number_in p.0.json)) (two_of items)

-- [LANE,least,most,A]
abbrev pub jitter_and_part : List Part → Option (One × Part)
jitter_and_part items =
    option_and_then (λ p.
    option_and_then (λ lane.
    option_and_then (λ least.
    option_map (λ most. (Jitter lane least most, p.3))
    (number_in p.2.json)) (number_in p.1.json)) (number_in p.0.json)) (four_of items)

-- [SIDE,WANT,TEST,bound,A]
abbrev pub gate_and_part : List Part → Option (One × Part)
gate_and_part items =
    option_and_then (λ p.
    option_and_then (λ want.
    option_and_then (λ side.
    option_and_then (λ test.
    option_map (λ bound. (Gate side want test bound, p.4))
    (number_in p.3.json)) (word_in tests p.2.json)) (word_in sides p.0.json)) (as_bool p.1.json)) (five_of items)

-- [FOLD,A]
abbrev pub gather_and_part : List Part → Option (One × Part)
gather_and_part items =
    option_and_then (λ p.
    option_map (λ fold. (Gather fold, p.1))
    (word_in folds p.0.json)) (two_of items)

-- {"NAME":n}, {"NAME":[n,m]}, {"NAME":[n,m,k]}, {"NAME":[n,m,k,l]}
abbrev pub a_number : (ℕ → Leaf) → Form
a_number node value items = option_map (λ n. of_leaf (node n)) (number_in value.json)

abbrev pub two_numbers : (ℕ → ℕ → Leaf) → Form
two_numbers node value items = option_map (λ n. of_leaf (node n.0 n.1)) (two_numbers_in items)

abbrev pub three_numbers : (ℕ → ℕ → ℕ → Leaf) → Form
three_numbers node value items = option_map (λ n. of_leaf (node n.0 n.1 n.2)) (three_numbers_in items)

abbrev pub four_numbers : (ℕ → ℕ → ℕ → ℕ → Leaf) → Form
four_numbers node value items = option_map (λ n. of_leaf (node n.0 n.1 n.2 n.3)) (four_numbers_in items)

-- {"NAME":A}
abbrev pub a_plan : One → Form
a_plan node value items = Some (over_one node value)

-- {"NAME":[n,A]}
abbrev pub a_number_and_a_plan : (ℕ → One) → Form
a_number_and_a_plan node value items = option_map (λ n. over_one (node n.0) n.1) (number_and_part items)

-- {"NAME":[LANE,least,most,A]}, {"NAME":[SIDE,WANT,TEST,bound,A]}, {"NAME":[FOLD,A]}
abbrev pub parameters_and_a_plan : (List Part → Option (One × Part)) → Form
parameters_and_a_plan form value items = option_map (λ n. over_one n.0 n.1) (form items)

-- {"NAME":[A,B]}
abbrev pub two_plans : Two → Form
two_plans node value items = option_map (λ p. over_two node p.0 p.1) (two_of items)
