-- What a schedule, given as the function that answers on each history, puts out along a history.
use Rattle.std.specs.Prelude.{ℕ, max, Bool, true, false, List, [], ◌∷◌, map, filter, zip, length, fold, sum}
use Rattle.sched_time.specs.Capped.{capped}
use Rattle.sched_time.specs.declared.starts.Decision.{Decision}
use Rattle.sched_time.specs.declared.starts.Decision.TheVariants.{Go, Done}
use Rattle.sched_plan.specs.Datum.{Datum, unit, num, pair, list}
use Rattle.sched_plan.specs.History.{prefixes}
use Rattle.sched_plan.specs.declared.history.Event.{Event}
use Rattle.sched_plan.specs.declared.history.Answer.{Answer}

-- whether the schedule goes on here
abbrev pub goes_on : Decision → Bool
goes_on (Go start) = true
goes_on Done = false

-- the outputs on those nonempty prefixes of the history on which the schedule goes on, in order
abbrev pub outputs : (List Event → Answer) → List Event → List Datum
outputs f h = map (λ p. (f p).output) (filter (λ p. goes_on (f p).decision) (prefixes h))

-- the history without its last event
abbrev pub before_last : List Event → List Event
before_last [] = []
before_last (e ∷ []) = []
before_last (e ∷ c ∷ h) = e ∷ before_last (c ∷ h)

-- the outputs on the prefixes but the whole history
abbrev pub earlier_outputs : (List Event → Answer) → List Event → List Datum
earlier_outputs f h = outputs f (before_last h)

-- the numbers among the values, in order
abbrev pub numbers_in : List Datum → List ℕ
numbers_in [] = []
numbers_in (unit ∷ ds) = numbers_in ds
numbers_in (num n ∷ ds) = n ∷ numbers_in ds
numbers_in (pair a b ∷ ds) = numbers_in ds
numbers_in (list items ∷ ds) = numbers_in ds

-- the number that a value is, 0 where it is none
abbrev pub number_of : Datum → ℕ
number_of unit = 0
number_of (num n) = n
number_of (pair a b) = 0
number_of (list items) = 0

-- the sum of the numbers
abbrev pub sum_in : List Datum → ℕ
sum_in ds = capped (sum (numbers_in ds))

-- how many values there are
abbrev pub count_in : List Datum → ℕ
count_in ds = capped (length ds)

-- the greatest of the numbers, 0 where there is none
abbrev pub greatest_in : List Datum → ℕ
greatest_in ds = fold max 0 (numbers_in ds)

-- the event with this input in place of its own
abbrev pub with_input : Datum → Event → Event
with_input input e = record { now = e.now; words = e.words; input = input }

-- the history with each event's input replaced by the output on the prefix that ends at that event
abbrev pub fed : (List Event → Answer) → List Event → List Event
fed f h = map (λ p. with_input (f p.0).output p.1) (zip (prefixes h) h)
