-- The code by which a proof tells values apart: a tag and up to two parts.
use Rattle.std.specs.Prelude.{◌≡◌, ℕ, cond, nat_eq, refl}
use Rattle.std.specs.Coded.{Coded}
use Rattle.sched_plan.specs.Datum.{Datum, unit, num, pair, list, Items, no_items, item}
use base.Stored.{Gv, gnil, gnum, gcons}
use mathlib.Core.Path.{sym, ◌∙◌, ap}

abbrev mutual
  pub datum_code : Datum → Gv
  datum_code unit = gcons (gnum 0) (gcons gnil gnil)
  datum_code (num n) = gcons (gnum 1) (gcons (gnum n) gnil)
  datum_code (pair a b) = gcons (gnum 2) (gcons (datum_code a) (datum_code b))
  datum_code (list ds) = gcons (gnum 3) (gcons (items_code ds) gnil)

  items_code : Items → Gv
  items_code no_items = gnil
  items_code (item d ds) = gcons (datum_code d) (items_code ds)

abbrev datum_at : ℕ → ℕ → Datum → Datum → Items → Datum
datum_at tag n a b ds =
    cond (nat_eq tag 0) unit (cond (nat_eq tag 1) (num n) (cond (nat_eq tag 2) (pair a b) (list ds)))

abbrev number_from : Gv → ℕ
number_from (gnum n) = n
number_from _ = 0

abbrev mutual
  pub datum_from : Gv → Datum
  datum_from (gcons (gnum tag) (gcons a b)) = datum_at tag (number_from a) (datum_from a) (datum_from b) (items_from a)
  datum_from _ = unit

  items_from : Gv → Items
  items_from (gcons a b) = item (datum_from a) (items_from b)
  items_from _ = no_items

mutual
  pub datum_back : (d : Datum) → datum_from (datum_code d) ≡ d
  datum_back unit = refl
  datum_back (num n) = refl
  datum_back (pair a b) = λ i. pair (datum_back a i) (datum_back b i)
  datum_back (list ds) = λ i. list (items_back ds i)

  items_back : (ds : Items) → items_from (items_code ds) ≡ ds
  items_back no_items = refl
  items_back (item d ds) = λ i. item (datum_back d i) (items_back ds i)

abbrev pub coded_datum : Coded Datum
coded_datum = record { code = datum_code; inj = λ x y p. sym (datum_back x) ∙ ap datum_from p ∙ datum_back y }
