-- The outputs that a node keeps, while a step is under way.
use Rattle.std.specs.Prelude.{Bool, if◌then◌else◌, List, [], ◌∷◌, ◌++◌, Option, Some, None, refl}
use Rattle.std.specs.Coded.{Coded, code_by, coded×, coded_list}
use Rattle.sched_plan.specs.Datum.{Datum}
use Rattle.sched_plan.specs.DatumCode.{coded_datum}

pub record ListPhases : Type 0 where
  pub present : List Datum
  pub next : List Datum

abbrev pub coded_list_phases : Coded ListPhases
coded_list_phases =
    code_by (List Datum × List Datum) (coded× (coded_list coded_datum) (coded_list coded_datum))
    (λ s. (s.present, s.next)) (λ p. record { present = p.0; next = p.1 }) (λ _. refl)

-- the items with one more, if there is one
abbrev pub with_more : List Datum → Option Datum → List Datum
with_more ds None = ds
with_more ds (Some d) = ds ++ d ∷ []

-- the items once the step is taken: from none where it begins anew
abbrev pub items_next : Bool → List Datum → Option Datum → List Datum
items_next anew ds more = with_more (if anew then [] else ds) more
