-- Worked examples, computed with the definitions alone: which plan a JSON value spells, or its first fault.
use Rattle.std.specs.Prelude.{◌≡◌, ℕ, zero, suc, codes, List, Ok, Err, true, false, refl}
use Rattle.serde_json.specs.Data.{Data, number, unsigned, string, array, object, no_items, item, no_members, member}
use Rattle.sched_plan.specs.Schedule.{leaf, two}
use Rattle.sched_plan.specs.declared.nodes.Two.TheVariants.{Meet, Follow}
use Rattle.sched_plan.specs.declared.leaves.Leaf.TheVariants.{Forever, Recurs, Spaced}
use Rattle.sched_plan.specs.declared.plans.PlanFault.TheVariants.{OutOfRange, TooDeep}
use Rattle.sched_plan_json.specs.declared.faults.ReadFault.TheVariants.{NotAPlan, Plan}
use Rattle.sched_plan_json.specs.PlanOf.{reading_of, plan_of}

-- {"name":value}
abbrev pub node : List ℕ → Data → Data
node name value = object (member name value no_members)

-- {"name":n}
abbrev pub of_number : List ℕ → ℕ → Data
of_number name n = node name (number (unsigned n))

-- {"name":[a,b]}
abbrev pub of_two : List ℕ → Data → Data → Data
of_two name a b = node name (array (item a (item b no_items)))

abbrev pub forever : Data
forever = string (codes "forever")

-- a value that is no plan
abbrev pub seven : Data
seven = number (unsigned 7)

-- meets nested on the left so many times
abbrev pub nested : ℕ → Data
nested zero = forever
nested (suc n) = of_two (codes "meet") (nested n) forever

pub meet_of_recurs_and_spaced : plan_of
    (of_two (codes "meet") (of_number (codes "recurs") 3) (of_number (codes "spaced") 100)) ≡
    Ok (two Meet (leaf (Recurs 3)) (leaf (Spaced 100)))
meet_of_recurs_and_spaced = refl

pub follow_of_forever_and_recurs : plan_of (of_two (codes "follow") forever (of_number (codes "recurs") 2)) ≡
    Ok (two Follow (leaf Forever) (leaf (Recurs 2)))
follow_of_forever_and_recurs = refl

pub number_is_no_plan : plan_of seven ≡ Err NotAPlan
number_is_no_plan = refl

pub one_plan_is_no_meet : plan_of (node (codes "meet") (array (item (of_number (codes "recurs") 3) no_items)))
    ≡ Err NotAPlan
one_plan_is_no_meet = refl

-- no item is read where their number is wrong
pub three_plans_are_no_meet : plan_of
    (node (codes "meet") (array (item (of_number (codes "fixed") 0) (item forever (item forever no_items))))) ≡
    Err NotAPlan
three_plans_are_no_meet = refl

pub two_members_are_no_plan : plan_of
    (object (member (codes "recurs") seven (member (codes "spaced") seven no_members))) ≡ Err NotAPlan
two_members_are_no_plan = refl

pub fixed_of_0 : plan_of (of_number (codes "fixed") 0) ≡ Err (Plan OutOfRange)
fixed_of_0 = refl

pub recurs_past_the_end : plan_of (of_number (codes "recurs") 4611686018427387904) ≡ Err (Plan OutOfRange)
recurs_past_the_end = refl

pub depth_33 : plan_of (nested 32) ≡ Err (Plan TooDeep)
depth_33 = refl

-- the first fault from the left is answered
pub no_plan_before_too_deep : plan_of (of_two (codes "meet") seven (nested 32)) ≡ Err NotAPlan
no_plan_before_too_deep = refl

pub too_deep_before_no_plan : plan_of (of_two (codes "meet") (nested 32) seven) ≡ Err (Plan TooDeep)
too_deep_before_no_plan = refl

-- memory is asked for once both plans were read
pub no_memory_for_one_plan : (reading_of (of_two (codes "meet") forever seven)).asked ≡ false
no_memory_for_one_plan = refl

pub memory_for_two_plans : (reading_of (of_two (codes "meet") (of_two (codes "meet") forever forever) seven)).asked
    ≡ true
memory_for_two_plans = refl
