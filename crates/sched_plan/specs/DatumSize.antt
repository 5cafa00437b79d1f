-- How many parts a value has, so that what goes into the parts ends.
use Rattle.std.specs.Prelude.{ℕ, ◌+◌}
use Rattle.sched_plan.specs.Datum.{Datum, unit, num, pair, list, Items, no_items, item}

-- how many parts a value has
abbrev mutual
  pub datum_size : Datum → ℕ
  datum_size unit = 1
  datum_size (num n) = 1
  datum_size (pair a b) = datum_size a + datum_size b + 1
  datum_size (list ds) = items_size ds + 1

  pub items_size : Items → ℕ
  items_size no_items = 0
  items_size (item d ds) = datum_size d + items_size ds + 1
