-- What a gate makes of an answer.
use Rattle.std.specs.Prelude.{ℕ, Bool, true, false, not, if◌then◌else◌, nat_lt, nat_le, nat_eq}
use Rattle.sched_plan.specs.Datum.{Datum, unit, num, pair, list}
use Rattle.sched_plan.specs.Changes.{ended}
use Rattle.sched_plan.specs.declared.nodes.Side.{Side}
use Rattle.sched_plan.specs.declared.nodes.Side.TheVariants.{Input, Output}
use Rattle.sched_plan.specs.declared.nodes.Test.{Test}
use Rattle.sched_plan.specs.declared.nodes.Test.TheVariants.{Below, AtLeast, Equal}
use Rattle.sched_plan.specs.declared.history.Answer.{Answer}

-- how the number compares with the bound
abbrev pub compares : Test → ℕ → ℕ → Bool
compares Below bound n = nat_lt n bound
compares AtLeast bound n = nat_le bound n
compares Equal bound n = nat_eq n bound

-- the test of a value; what is no number fails it
abbrev pub passes : Test → ℕ → Datum → Bool
passes test bound unit = false
passes test bound (num n) = compares test bound n
passes test bound (pair a b) = false
passes test bound (list items) = false

-- the value that is tested
abbrev pub tested : Side → Datum → Answer → Datum
tested Input input a = input
tested Output input a = a.output

-- whether the result is the wanted one
abbrev pub is_wanted : Bool → Bool → Bool
is_wanted true result = result
is_wanted false result = not result

-- the answer, but done where the test has not the wanted result
abbrev pub gated : Side → Bool → Test → ℕ → Datum → Answer → Answer
gated side want test bound input a =
    if is_wanted want (passes test bound (tested side input a)) then a else ended a
