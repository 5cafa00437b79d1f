-- The text of a value: `()`, a decimal number, `(a, b)` or `[a, b, c]`.
use Rattle.std.specs.Prelude.{ℕ, List, [], ◌++◌, codes}
use Rattle.std.specs.Fmt.{decimal}
use Rattle.sched_plan.specs.Datum.{Datum, unit, num, pair, list, Items, no_items, item}

abbrev mutual
  pub text_of : Datum → List ℕ
  text_of unit = codes "()"
  text_of (num n) = decimal n
  text_of (pair a b) = codes "(" ++ text_of a ++ codes ", " ++ text_of b ++ codes ")"
  text_of (list ds) = codes "[" ++ items_text ds ++ codes "]"

  -- the items' texts, with commas between them
  pub items_text : Items → List ℕ
  items_text no_items = []
  items_text (item d ds) = text_of d ++ more_text ds

  -- the texts of further items, each after a comma
  pub more_text : Items → List ℕ
  more_text no_items = []
  more_text (item d ds) = codes ", " ++ text_of d ++ more_text ds
