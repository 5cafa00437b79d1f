-- The values that a schedule takes and gives, as data.
use Rattle.std.specs.Prelude.{ℕ, List, [], ◌∷◌, Option, Some, None}

mutual
  pub data Datum : Type 0 where
    unit : Datum
    num : ℕ → Datum
    pair : Datum → Datum → Datum
    list : Items → Datum

  pub data Items : Type 0 where
    no_items : Items
    item : Datum → Items → Items

-- the items of a list, as a value holds them
abbrev pub items_of : List Datum → Items
items_of [] = no_items
items_of (d ∷ ds) = item d (items_of ds)

-- the number that a value is, if it is one
abbrev pub as_number : Datum → Option ℕ
as_number unit = None
as_number (num n) = Some n
as_number (pair a b) = None
as_number (list items) = None

-- the parts of a pair; nothing where the value is no pair
abbrev pub first_part : Datum → Datum
first_part unit = unit
first_part (num n) = unit
first_part (pair a b) = a
first_part (list items) = unit

abbrev pub second_part : Datum → Datum
second_part unit = unit
second_part (num n) = unit
second_part (pair a b) = b
second_part (list items) = unit
