-- The tables of all nodes: how each is spelt in JSON. bin/nodes makes the rows of nodes.
use Rattle.std.specs.Prelude.{ℕ, List, [], ◌∷◌, ◌++◌, codes}
use Rattle.sched_plan.specs.declared.leaves.Leaf.{Leaf}
use Rattle.sched_plan.specs.declared.leaves.Leaf.TheVariants.{Forever, Recurs, Spaced, Fixed, Windowed, Linear}
use Rattle.sched_plan.specs.declared.leaves.Leaf.TheVariants.{Exponential, ExponentialMilli, Fibonacci, Decorrelated}
use Rattle.sched_plan.specs.declared.leaves.Leaf.TheVariants.{Elapsed, Identity, Unfold, Lone}
use Rattle.sched_plan.specs.declared.nodes.One.TheVariants.{Add, Set, Cap, AddOut, Within, EndsBy, Renew, RenewIdle}
use Rattle.sched_plan.specs.declared.nodes.One.TheVariants.{First, Second, Nothing}
use Rattle.sched_plan.specs.declared.nodes.Two.TheVariants.{Meet, Join, Follow, Feed}
use Rattle.sched_plan_json.specs.Forms.{Row, jitter_and_part, gate_and_part, gather_and_part, a_number, two_numbers}
use Rattle.sched_plan_json.specs.Forms.{three_numbers, four_numbers, a_plan, a_number_and_a_plan, parameters_and_a_plan}
use Rattle.sched_plan_json.specs.Forms.{two_plans}

-- leaves that are spelt as a string
abbrev pub names : List (List ℕ × Leaf)
names =
    (codes "forever", Forever)
    ∷ (codes "elapsed", Elapsed)
    ∷ (codes "identity", Identity)
    ∷ []

-- leaves that are spelt as an object's one member
abbrev pub leaf_rows : List Row
leaf_rows =
    (codes "recurs", a_number Recurs)
    ∷ (codes "spaced", a_number Spaced)
    ∷ (codes "fixed", a_number Fixed)
    ∷ (codes "windowed", a_number Windowed)
    ∷ (codes "linear", a_number Linear)
    ∷ (codes "exponential", two_numbers Exponential)
    ∷ (codes "exponential_milli", two_numbers ExponentialMilli)
    ∷ (codes "fibonacci", a_number Fibonacci)
    ∷ (codes "decorrelated", four_numbers Decorrelated)
    ∷ (codes "unfold", three_numbers Unfold)
    ∷ (codes "lone", a_number Lone)
    ∷ []

-- nodes that end their plan or begin it anew
abbrev pub round_rows : List Row
round_rows =
    (codes "within", a_number_and_a_plan Within)
    ∷ (codes "ends_by", a_number_and_a_plan EndsBy)
    ∷ (codes "renew", a_number_and_a_plan Renew)
    ∷ (codes "renew_idle", a_number_and_a_plan RenewIdle)
    ∷ []

-- nodes that look at inputs or outputs
abbrev pub output_rows : List Row
output_rows =
    (codes "gate", parameters_and_a_plan gate_and_part)
    ∷ (codes "gather", parameters_and_a_plan gather_and_part)
    ∷ (codes "first", a_plan First)
    ∷ (codes "second", a_plan Second)
    ∷ (codes "nothing", a_plan Nothing)
    ∷ []

-- nodes that change delays
abbrev pub delay_rows : List Row
delay_rows =
    (codes "add", a_number_and_a_plan Add)
    ∷ (codes "set", a_number_and_a_plan Set)
    ∷ (codes "cap", a_number_and_a_plan Cap)
    ∷ (codes "add_out", a_plan AddOut)
    ∷ (codes "jitter", parameters_and_a_plan jitter_and_part)
    ∷ []

-- nodes over two plans
abbrev pub pair_rows : List Row
pair_rows =
    (codes "meet", two_plans Meet)
    ∷ (codes "join", two_plans Join)
    ∷ (codes "follow", two_plans Follow)
    ∷ (codes "feed", two_plans Feed)
    ∷ []

-- all nodes that are spelt as an object's one member, and the tables on the way to them
abbrev pub from_rounds : List Row
from_rounds = round_rows ++ leaf_rows

abbrev pub from_outputs : List Row
from_outputs = output_rows ++ from_rounds

abbrev pub from_delays : List Row
from_delays = delay_rows ++ from_outputs

abbrev pub from_pairs : List Row
from_pairs = pair_rows ++ from_delays
