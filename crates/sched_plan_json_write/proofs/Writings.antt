-- What is written of a valid schedule reads as that schedule.
use Rattle.std.proofs.Common.{◌≡◌, ℕ, ◌+◌, ◌≤◌, Bool, true, false, not, ◌&&◌, if◌then◌else◌, nat_lt, IsTrue, List, []}
use Rattle.std.proofs.Common.{◌∷◌, ◌++◌, map, Some, Ok, Err, String, string_bytes, Vec, Global, refl, sym, ◌∙◌, ap}
use Rattle.std.proofs.Common.{append_assoc, arith}
use Rattle.std.proofs.lemmas.Bool.Decides.{nat_tests}
use Rattle.std.proofs.lemmas.List.{map-append}
use Rattle.std.proofs.lemmas.Str.{IsUtf8-string_bytes}
use Rattle.serde_json.specs.Data.{Data, array, depth}
use Rattle.serde_json.specs.Read.{max_depth, read}
use Rattle.serde_json.specs.View.{view, items_of, items_view}
use Rattle.serde_json.specs.Written.{has_float, compact_text}
use Rattle.serde_json.specs.declared.value.Value.{Value, Array}
use Rattle.serde_json.proofs.Views.{view-Array}
use Rattle.sched_plan.specs.Schedule.{Schedule, leaf, one, two, nodes_of, depth_of, node_in_range, one_in_range}
use Rattle.sched_plan.specs.Schedule.{is_valid}
use Rattle.sched_plan.specs.Plan.{built_plan}
use Rattle.sched_plan.specs.declared.plans.PlanFault.TheVariants.{OutOfRange, TooDeep, TooMany}
use Rattle.sched_plan.specs.declared.leaves.Leaf.{Leaf}
use Rattle.sched_plan.specs.declared.leaves.Leaf.TheVariants.{Forever}
use Rattle.sched_plan.specs.declared.nodes.One.{One}
use Rattle.sched_plan.specs.declared.nodes.One.TheVariants.{Gate, Gather, AddOut}
use Rattle.sched_plan.specs.declared.nodes.Two.{Two}
use Rattle.sched_plan.specs.declared.nodes.Two.TheVariants.{Meet}
use Rattle.sched_plan.specs.declared.nodes.Side.TheVariants.{Input, Output}
use Rattle.sched_plan.specs.declared.nodes.Test.TheVariants.{Below, AtLeast, Equal}
use Rattle.sched_plan.specs.declared.nodes.Fold.TheVariants as fold
use Rattle.sched_plan_json.specs.Reading.{of_builder}
use Rattle.sched_plan_json.specs.Forms.{of_leaf, over_one, over_two}
use Rattle.sched_plan_json.specs.PlanOf.{plan_of, part_of, reading_of_node, spelt_of}
use Rattle.sched_plan_json.specs.Texts.{ReadsText}
use Rattle.sched_plan_json.proofs.Readings.{reading_of_spelt, one_read, two_read}
use Rattle.sched_plan_json_write.specs.Forms.{with_both}
use Rattle.sched_plan_json_write.specs.Written.{leaf_json, one_json, two_word, json_of}

-- what is written of a node has that node's form

leaf_spelt : (l : Leaf) → spelt_of (leaf_json l) ≡ Some (of_leaf l)
leaf_spelt Forever = refl
leaf_spelt _ = refl

one_spelt : (k : One) (a : Data) → spelt_of (one_json k a) ≡ Some (over_one k (part_of a))
one_spelt (Gate Input want Below bound) a = refl
one_spelt (Gate Input want AtLeast bound) a = refl
one_spelt (Gate Input want Equal bound) a = refl
one_spelt (Gate Output want Below bound) a = refl
one_spelt (Gate Output want AtLeast bound) a = refl
one_spelt (Gate Output want Equal bound) a = refl
one_spelt (Gather fold.Sum) a = refl
one_spelt (Gather fold.Count) a = refl
one_spelt (Gather fold.Max) a = refl
one_spelt (Gather fold.List) a = refl
one_spelt _ a = refl

two_spelt : (k : Two) (a b : Data) → spelt_of (with_both (two_word k) a b) ≡ Some (over_two k (part_of a) (part_of b))
two_spelt Meet a b = refl
two_spelt _ a b = refl

not_above : (a b : ℕ) → b ≤ a → nat_lt a b ≡ false
not_above a b h = grind (arith, nat_tests)

built_by : (s : Schedule) (own deep many : Bool) → own ≡ true → deep ≡ false → many ≡ false →
    (if not own then Err OutOfRange else if deep then Err TooDeep else if many then Err TooMany else Ok s) ≡ Ok s
built_by s own deep many a b c = rw (a, b, c) refl

-- no builder refuses a schedule within the limits whose own node is in range
built : (s : Schedule) → IsTrue (node_in_range s) → depth_of s ≤ 32 → nodes_of s ≤ 256 → built_plan s ≡ Ok s
built s own shallow few =
    built_by s (node_in_range s) (nat_lt 32 (depth_of s)) (nat_lt 256 (nodes_of s)) own
    (not_above 32 (depth_of s) shallow) (not_above 256 (nodes_of s) few)

left_of : (a b : Bool) → IsTrue (a && b) → IsTrue a
left_of true b h = refl
left_of false b h = h

right_of : (a b : Bool) → IsTrue (a && b) → IsTrue b
right_of true b h = h
right_of false b h = cc

-- what is written of a valid schedule within the limits reads as it
pub json_reads : (s : Schedule) → IsTrue (is_valid s) → depth_of s ≤ 32 → nodes_of s ≤ 256 → plan_of (json_of s) ≡ Ok s
json_reads (leaf l) valid shallow few =
    ap (λ r. r.answer) (reading_of_spelt (leaf_json l) ∙ ap reading_of_node (leaf_spelt l))
    ∙ ap of_builder (built (leaf l) valid shallow few)
json_reads (one k a) valid shallow few =
    let inner = json_reads a (right_of (one_in_range k) (is_valid a) valid) (omega arith) (omega arith) in
    let whole = built (one k a) (left_of (one_in_range k) (is_valid a) valid) shallow few in
    sym (one_read (json_of (one k a)) (json_of a) k a (Ok (one k a)) (one_spelt k (json_of a)) (sym inner)
    (sym (ap of_builder whole)))
json_reads (two k a b) valid shallow few =
    let first = json_reads a (left_of (is_valid a) (is_valid b) valid) (omega arith) (omega arith) in
    let second = json_reads b (right_of (is_valid a) (is_valid b) valid) (omega arith) (omega arith) in
    let whole = built (two k a b) refl shallow few in
    sym
    (two_read (json_of (two k a b)) (json_of a) (json_of b) k (two_spelt k (json_of a) (json_of b)) a b (Ok (two k a b))
    (sym first) (sym second) (sym (ap of_builder whole)))

-- the same of a value that was written
pub written_reads : (d : Data) (s : Schedule) → d ≡ json_of s → IsTrue (is_valid s) → depth_of s ≤ 32
    → nodes_of s ≤ 256 →
    plan_of d ≡ Ok s
written_reads d s is valid shallow few = ap plan_of is ∙ json_reads s valid shallow few

-- how deep it nests

leaf_nested : (l : Leaf) → depth (leaf_json l) ≤ 2
leaf_nested Forever = omega arith
leaf_nested _ = omega arith

one_nested : (k : One) (a : Data) → depth (one_json k a) ≤ depth a + 2
one_nested AddOut a = omega arith
one_nested _ a = omega arith

pub json_nested : (s : Schedule) → depth (json_of s) ≤ depth_of s + depth_of s
json_nested (leaf l) = omega (arith, leaf_nested l)
json_nested (one k a) = omega (arith, one_nested k (json_of a), json_nested a)
json_nested (two k a b) = omega (arith, json_nested a, json_nested b)

-- no number in it is a float

leaf_whole : (l : Leaf) → has_float (leaf_json l) ≡ false
leaf_whole Forever = refl
leaf_whole _ = refl

one_whole : (k : One) (a : Data) → has_float a ≡ false → has_float (one_json k a) ≡ false
one_whole AddOut a h = rw h refl
one_whole _ a h = rw h refl

pub json_whole : (s : Schedule) → has_float (json_of s) ≡ false
json_whole (leaf l) = leaf_whole l
json_whole (one k a) = one_whole k (json_of a) (json_whole a)
json_whole (two k a b) = rw (json_whole a, json_whole b) refl

-- a text that was written of a value without floats has no spaces, and reads as the value

pub text_compact : (d : Data) (s : Schedule) (text : String Global) → d ≡ json_of s →
    (has_float d ≡ false → string_bytes text ≡ compact_text d) → string_bytes text ≡ compact_text (json_of s)
text_compact d s text is told = told (ap has_float is ∙ json_whole s) ∙ ap compact_text is

pub text_reads : (d : Data) (s : Schedule) (text : String Global) → d ≡ json_of s → plan_of d ≡ Ok s → depth_of s ≤ 32 →
    (depth d ≤ max_depth → read (string_bytes text) ≡ Some d) → ReadsText (string_bytes text) (Ok s)
text_reads d s text is reads shallow back =
    let nested : depth d ≤ max_depth = rw is (omega (arith, json_nested s)) in
    (d, IsUtf8-string_bytes text, back nested, reads)

-- two more items
pub two_more : (list : Vec Value Global) (before : List Value) (a b : Value)
    → list.items ≡ (before ++ a ∷ []) ++ b ∷ [] →
    view (Array list) ≡ array (items_of (map view before ++ view a ∷ view b ∷ []))
two_more list before a b is =
    let all : list.items ≡ before ++ a ∷ b ∷ [] = is ∙ append_assoc before (a ∷ []) (b ∷ []) in
    view-Array list ∙ ap (λ vs. array (items_view vs)) all
    ∙ ap (λ ds. array (items_of ds)) (map-append view before (a ∷ b ∷ []))
