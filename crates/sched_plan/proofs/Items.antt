-- Lists of values: each item is smaller than its list, and lists of equal values are equal.
use Rattle.std.proofs.Common.{◌≡◌, ℕ, zero, suc, ◌<◌, List, [], ◌∷◌, length, get_or, refl, ap, arith}
use Rattle.sched_plan.specs.Datum.{Datum, list, items_of}
use Rattle.sched_plan.specs.DatumSize.{datum_size, items_size}

-- an item of a list has fewer parts than all the items together
item_smaller : (ds : List Datum) (i : ℕ) (d : Datum) → i < length ds → d ≡ get_or ds i d
    → datum_size d < items_size (items_of ds)
item_smaller [] i d h e = absurd (omega arith)
item_smaller (x ∷ ds) zero d h e = omega (arith, ap datum_size e)
item_smaller (x ∷ ds) (suc i) d h e = omega (arith, item_smaller ds i d (omega arith) e)

-- the same where a loop goes over the list under another name
pub visited_smaller : (all ds : List Datum) (i : ℕ) (d : Datum) → ds ≡ all → i < length ds → d ≡ get_or ds i d
    → datum_size d < items_size (items_of all)
visited_smaller all ds i d same h e = rw (← same) (item_smaller ds i d h e)

-- a value holds the items of one list alone
list_injective : (ds es : List Datum) → items_of ds ≡ items_of es → ds ≡ es
list_injective [] [] e = refl
list_injective [] (y ∷ es) e = cc
list_injective (x ∷ ds) [] e = cc
list_injective (x ∷ ds) (y ∷ es) e = let rest = list_injective ds es (cc) in cc

-- lists as values are equal where their items are
pub list_values_agree : (x y : Datum) (ds es : List Datum) → list (items_of ds) ≡ x → list (items_of es) ≡ y
    → x ≡ y → ds ≡ es
list_values_agree x y ds es p q e = list_injective ds es (cc)
