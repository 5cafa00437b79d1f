-- The value that its shape in memory stands for.
use Rattle.sched_plan.specs.Datum.{Datum, unit, num, pair, list, items_of}
use Rattle.sched_plan.specs.declared.values.ValShape.{ValShape}
use Rattle.sched_plan.specs.declared.values.ValShape.TheVariants.{Unit, Num, Pair, List as Items}

-- the value of this shape
abbrev pub datum_of : ValShape → Datum
datum_of Unit = unit
datum_of (Num n) = num n
datum_of (Pair p) = pair p.value.0 p.value.1
datum_of (Items ds) = list (items_of ds.items)
