-- Which plan a JSON value spells, or the first fault found in it.
use Rattle.std.specs.Prelude.{ℕ, List, [], ◌∷◌, Option, Some, None, option_map, Result}
use Rattle.serde_json.specs.Data.{Data, string, array, object, Items, no_items, item, Members, no_members, member}
use Rattle.sched_plan.specs.Schedule.{Schedule, one, two}
use Rattle.sched_plan.specs.declared.leaves.Leaf.{Leaf}
use Rattle.sched_plan_json.specs.declared.faults.ReadFault.{ReadFault}
use Rattle.sched_plan_json.specs.Reading.{Reading, found_value, not_a_plan, then_read, built_leaf, built_node}
use Rattle.sched_plan_json.specs.Forms.{Part, Spelt, of_leaf, over_one, over_two, spelt_by, meant_by}
use Rattle.sched_plan_json.specs.Nodes.{names, from_pairs}

-- two plans, from left to right
abbrev pub both_plans : Part → Part → Reading (Schedule × Schedule)
both_plans a b = then_read a.plan (λ first. then_read b.plan (λ second. found_value (first, second)))

-- once a node's own form is right its plans are read, and then its builder is asked
abbrev pub reading_of_node : Option Spelt → Reading Schedule
reading_of_node None = not_a_plan
reading_of_node (Some (of_leaf l)) = built_leaf l
reading_of_node (Some (over_one k a)) = then_read a.plan (λ s. built_node (one k s))
reading_of_node (Some (over_two k a b)) = then_read (both_plans a b) (λ p. built_node (two k p.0 p.1))

abbrev pub reading_of_leaf : Option Leaf → Reading Schedule
reading_of_leaf None = not_a_plan
reading_of_leaf (Some l) = built_leaf l

-- what comes of reading a string as a plan
abbrev pub reading_of_name : List ℕ → Reading Schedule
reading_of_name name = reading_of_leaf (meant_by names name)

abbrev mutual
  -- what comes of reading a JSON value as a plan: a node is a string or an object with exactly one member
  pub reading_of : Data → Reading Schedule
  reading_of (string name) = reading_of_name name
  reading_of (object members) = reading_of_members members
  reading_of _ = not_a_plan

  pub reading_of_members : Members → Reading Schedule
  reading_of_members (member name value no_members) =
      reading_of_node (spelt_by from_pairs name (record { json = value; plan = reading_of value }) (parts_of value))
  reading_of_members _ = not_a_plan

  -- the items of an array
  pub parts_of : Data → List Part
  parts_of (array items) = parts_of_items items
  parts_of _ = []

  pub parts_of_items : Items → List Part
  parts_of_items no_items = []
  parts_of_items (item d items) = record { json = d; plan = reading_of d } ∷ parts_of_items items

-- a value as a part of a node
abbrev pub part_of : Data → Part
part_of d = record { json = d; plan = reading_of d }

-- the plan that a JSON value spells, or the first fault: first a node's own form, then its plans from left to right,
-- then what its builder refuses
abbrev pub plan_of : Data → Result Schedule ReadFault
plan_of d = (reading_of d).answer

-- what a value's own form spells, if it has the form of a node
abbrev pub spelt_by_name : List ℕ → Option Spelt
spelt_by_name name = option_map of_leaf (meant_by names name)

abbrev pub spelt_of_members : Members → Option Spelt
spelt_of_members (member name value no_members) = spelt_by from_pairs name (part_of value) (parts_of value)
spelt_of_members _ = None

abbrev pub spelt_of : Data → Option Spelt
spelt_of (string name) = spelt_by_name name
spelt_of (object members) = spelt_of_members members
spelt_of _ = None
