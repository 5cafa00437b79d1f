-- Histories: the events that a schedule was given, oldest first.
use Rattle.std.specs.Prelude.{◌≤◌, ℕ, ◌-◌, List, [], ◌∷◌, map, length, get_or}
use Rattle.sched_time.specs.Capped.{capped}
use Rattle.sched_plan.specs.Datum.{Datum, unit}
use Rattle.sched_plan.specs.declared.history.Event.{Event}

-- the moment of the first event, or 0 where there is none
abbrev pub first_moment : List Event → ℕ
first_moment [] = 0
first_moment (e ∷ h) = e.now

-- the moment of the last event, or 0 where there is none
abbrev pub last_moment : List Event → ℕ
last_moment [] = 0
last_moment (e ∷ []) = e.now
last_moment (e ∷ d ∷ h) = last_moment (d ∷ h)

-- the input of the last event, or nothing where there is none
abbrev pub last_input : List Event → Datum
last_input [] = unit
last_input (e ∷ []) = e.input
last_input (e ∷ d ∷ h) = last_input (d ∷ h)

-- the random words of the last event, lanes 0 to 3
abbrev pub last_words : List Event → List ℕ
last_words [] = []
last_words (e ∷ []) = e.words
last_words (e ∷ d ∷ h) = last_words (d ∷ h)

-- the random words of a lane, event by event
abbrev pub words_in : ℕ → List Event → List ℕ
words_in lane h = map (λ e. get_or e.words lane 0) h

-- the moments never fall
abbrev pub IsHistory : List Event → Type 0
IsHistory [] = Unit {0}
IsHistory (e ∷ []) = Unit {0}
IsHistory (e ∷ d ∷ h) = (e.now ≤ d.now) × IsHistory (d ∷ h)

-- how many events came before the last
abbrev pub repeats : List Event → ℕ
repeats h = capped (length h - 1)

-- the nonempty prefixes, shortest first
abbrev pub prefixes : List Event → List (List Event)
prefixes [] = []
prefixes (e ∷ h) = (e ∷ []) ∷ map (λ p. e ∷ p) (prefixes h)
