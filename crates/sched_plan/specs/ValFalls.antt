-- Each part of a value is smaller than the value.
use Rattle.std.specs.Prelude.{◌+◌, ◌≤◌, max, List, [], ◌∷◌}
use Rattle.std.proofs.Common.{arith}
use Rattle.sched_plan.specs.Datum.{Datum, items_of}
use Rattle.sched_plan.specs.DatumSize.{datum_size, items_size}
use Rattle.sched_plan.specs.Val.{datum_of}
use Rattle.sched_plan.specs.declared.values.ValShape.{ValShape}
use Rattle.sched_plan.specs.declared.values.ValShape.TheVariants.{Unit, Num, Pair, List as Items}
use Rattle.sched_plan.specs.declared.values.Val.TheDeep.{deep-ValShape}
use denote.Param.Weighed.{most}

-- no item is larger than all of them together
most_le-items_size : (ds : List Datum) → most (λ d. datum_size d + 1) ds ≤ items_size (items_of ds) + 1
most_le-items_size [] = omega arith
most_le-items_size (d ∷ ds) = omega (arith, most_le-items_size ds)

-- each part is smaller than the whole
pub deep_le-datum_size : (s : ValShape) → max (deep-ValShape s) 0 ≤ datum_size (datum_of s)
deep_le-datum_size Unit = omega arith
deep_le-datum_size (Num n) = omega arith
deep_le-datum_size (Pair p) = omega arith
deep_le-datum_size (Items ds) = omega (arith, most_le-items_size ds.items)
