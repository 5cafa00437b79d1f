-- What is told of a fault, and of the first fault of a plan's text.
use Rattle.std.specs.Prelude.{◌≡◌, ℕ, List, ◌++◌, codes, decimal, Option, Some, None, Err, string_bytes}
use Rattle.serde_json.specs.Data.{Data}
use Rattle.sched_plan_json.specs.PlanOf.{plan_of}
use Rattle.sched_plan_json.specs.Texts.{Spells, SpellsNothing}
use Rattle.sched_plan_json.specs.declared.faults.ReadFault.{ReadFault}
use Rattle.sched_plan_check.specs.Places.{Into, place_of, value_at}
use Rattle.sched_plan_check.specs.PlanFaults.{IsPlan, FirstFault}
use Rattle.sched_plan_check.specs.declared.places.Fault.{Fault}
use Rattle.sched_plan_hint.specs.PlaceText.{place_text}
use Rattle.sched_plan_hint.specs.JsonFaults.{json_words}
use Rattle.sched_plan_hint.specs.declared.faults.ToldFault.{ToldFault}
use Rattle.sched_plan_hint.specs.declared.faults.ToldFault.TheVariants.{NotJson, Refused}

-- `not JSON: line LINE, column COLUMN: REASON`, or `PLACE: HINT`
abbrev pub told_text : ToldFault → List ℕ
told_text (NotJson line column why) =
    codes "not JSON: line " ++ decimal line ++ codes ", column " ++ decimal column ++ codes ": " ++ json_words why
told_text (Refused fault place hint) = string_bytes place ++ codes ": " ++ string_bytes hint

-- the fault and the text of its place are told
abbrev pub IsTold : Fault → ToldFault → Type 0
IsTold found (NotJson line column why) = ⊥
IsTold found (Refused fault place hint) =
    (fault ≡ found.fault) × (string_bytes place ≡ place_text (place_of found.place.items))

-- it is told that the text is no JSON
abbrev pub IsNoJson : ToldFault → Type 0
IsNoJson (NotJson line column why) = Unit {0}
IsNoJson (Refused fault place hint) = ⊥

-- the fault is that of reading the value as a plan, and this is the text of a place that leads to a value that has it,
-- the first one
pub record IsFaultAt (d : Data) (fault : ReadFault) (text : List ℕ) : Type 0 where
  pub place : List Into
  pub value : Data
  pub whole : plan_of d ≡ Err fault
  pub leads : value_at place d ≡ Some value
  pub has : plan_of value ≡ Err fault
  pub first : FirstFault fault d place value
  pub told : text ≡ place_text place

-- what is told of a value: nothing where it spells a plan, and else its first fault and the place
abbrev pub TellsFault : Data → Option ToldFault → Type 0
TellsFault d None = IsPlan d
TellsFault d (Some (Refused fault place hint)) = IsFaultAt d fault (string_bytes place)
TellsFault d (Some (NotJson line column why)) = ⊥

-- what is told of bytes: that they are no JSON, or what is told of the value that they spell
abbrev pub FindsFault : List ℕ → Option ToldFault → Type 0
FindsFault bytes (Some (NotJson line column why)) = SpellsNothing bytes
FindsFault bytes found = Spells bytes (λ d. TellsFault d found)
