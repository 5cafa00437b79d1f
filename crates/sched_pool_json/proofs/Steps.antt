-- What is true while the items of an array are read one after another.
use Rattle.std.proofs.Common.{◌≡◌, suc, List, [], ◌∷◌, ◌++◌, length, Result, Ok, Err, IsTrue, refl, ap}
use Rattle.serde_json.specs.Data.{Data, Items}
use Rattle.serde_json.specs.View.{items_view}
use Rattle.serde_json.specs.declared.value.Value.{Value}
use Rattle.sched_plan_json.specs.Reading.{Reading}
use Rattle.sched_plan_json.specs.declared.faults.ReadFault.{ReadFault}
use Rattle.sched_pool_json.specs.Each.{each}
use Rattle.sched_pool_json.specs.JobsOf.{count}

-- as many items as values
pub count_of_values : (values : List Value) → count (items_view values) ≡ length values
count_of_values [] = refl
count_of_values (v ∷ values) = ap suc (count_of_values values)

-- the answer with what was found before
abbrev pub after : {A : Type 0} → List A → Result (List A) ReadFault → Result (List A) ReadFault
after front (Ok rest) = Ok (front ++ rest)
after front (Err fault) = Err fault

-- So far the items before `rest` were found: the whole's answer is theirs with that of the rest, and memory that the
-- rest asks for the whole asks for.
pub record GoesOn {A : Type 0} (reads : Data → Reading A) (all rest : Items) (found : List A) : Type 0 where
  pub answer : (each reads all).answer ≡ after found (each reads rest).answer
  pub asked : IsTrue (each reads rest).asked → IsTrue (each reads all).asked
