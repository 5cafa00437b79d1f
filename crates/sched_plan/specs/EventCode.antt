-- The code by which a proof tells events apart.
use Rattle.std.specs.Prelude.{refl, ℕ, List}
use Rattle.std.specs.Coded.{Coded, code_by, coded×, coded_ℕ, coded_list}
use Rattle.sched_plan.specs.Datum.{Datum}
use Rattle.sched_plan.specs.DatumCode.{coded_datum}
use Rattle.sched_plan.specs.declared.history.Event.{Event}

-- an event is stored as its parts
abbrev pub coded_event : Coded Event
coded_event =
    code_by (ℕ × (List ℕ × Datum)) (coded× coded_ℕ (coded× (coded_list coded_ℕ) coded_datum))
    (λ e. (e.now, (e.words, e.input))) (λ p. record { now = p.0; words = p.1.0; input = p.1.1 }) (λ _. refl)
