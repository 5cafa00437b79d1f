-- How a plan is stepped.
use Rattle.std.specs.Prelude.{ℕ, ◌-◌, min, List, [], ◌∷◌, length, slice_get, unwrap_or}
use Rattle.sched_plan_course.specs.declared.courses.PlanOptions.{PlanOptions}
use Rattle.sched_plan_course.specs.declared.courses.PlanCourse.{PlanCourse}

-- at most so many events, the first at `from`, each later one `took` after the start that was planned before it, and of
-- each by its number the input and the words, the last of which repeat
pub record Course : Type 0 where
  pub steps : ℕ
  pub from : ℕ
  pub took : ℕ
  pub inputs : List ℕ
  pub words : List (List ℕ)

-- the course that the code has
abbrev pub course_of : PlanCourse → Course
course_of c = record { steps = c.steps; from = c.from; took = c.took; inputs = c.inputs.items; words = c.words.items }

-- item n of the list, the last one repeated; d where there is none
abbrev pub item_or_last : {A : Type 0} → A → List A → ℕ → A
item_or_last d xs n = unwrap_or (slice_get xs (min n (length xs - 1))) d

-- each event has the same input, and the same word in all four lanes
abbrev pub steady : PlanOptions → Course
steady o = record {
  steps = o.steps;
  from = o.from;
  took = o.took;
  inputs = o.input ∷ [];
  words = (o.word ∷ o.word ∷ o.word ∷ o.word ∷ []) ∷ [];
}
