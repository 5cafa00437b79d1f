-- Worked examples, computed with the definitions alone: what a plan answers at each event of a history.
use Rattle.std.specs.Prelude.{◌≡◌, ℕ, List, [], ◌∷◌, map, refl}
use Rattle.sched_time.specs.declared.starts.Decision.{Decision}
use Rattle.sched_time.specs.declared.starts.Decision.TheVariants.{Go, Done}
use Rattle.sched_plan.specs.Datum.{Datum, unit, num, pair}
use Rattle.sched_plan.specs.Schedule.{Schedule, leaf, one, two}
use Rattle.sched_plan.specs.History.{prefixes}
use Rattle.sched_plan.specs.Answer.{answer}
use Rattle.sched_plan.specs.declared.leaves.Leaf.TheVariants.{Forever, Recurs, Spaced, Fixed, ExponentialMilli}
use Rattle.sched_plan.specs.declared.nodes.One.TheVariants.{Within, EndsBy, Nothing}
use Rattle.sched_plan.specs.declared.nodes.Two.TheVariants.{Meet, Follow}
use Rattle.sched_plan.specs.declared.history.Event.{Event}
use Rattle.sched_plan.specs.declared.history.Answer.{Answer}

-- the random word of each event, in the middle of the range
abbrev pub middle_word : ℕ
middle_word = 2147483648

-- events at these moments, with the input 0
abbrev pub at : List ℕ → List Event
at ms =
    map (λ m. record { now = m; words = middle_word ∷ middle_word ∷ middle_word ∷ middle_word ∷ []; input = num 0 }) ms

abbrev pub gives : Datum → Decision → Answer
gives output decision = record { output = output; decision = decision }

-- events at moment 0 with these inputs
abbrev pub with_inputs : List Datum → List Event
with_inputs ds =
    map (λ d. record { now = 0; words = middle_word ∷ middle_word ∷ middle_word ∷ middle_word ∷ []; input = d }) ds

-- events at these moments, with these random words each
abbrev pub with_words : List ℕ → List ℕ → List Event
with_words ws ms = map (λ m. record { now = m; words = ws; input = num 0 }) ms

-- the answers at each event of the history in turn
abbrev pub answers_on : Schedule → List Event → List Answer
answers_on s h = map (answer s) (prefixes h)

abbrev pub answers : Schedule → List ℕ → List Answer
answers s ms = answers_on s (at ms)

pub meet_of_recurs_and_spaced : answers (two Meet (leaf (Recurs 3)) (leaf (Spaced 100))) (0 ∷ 100 ∷ 200 ∷ 300 ∷ []) ≡
    gives (pair (num 0) (num 0)) (Go 100) ∷ gives (pair (num 1) (num 1)) (Go 200) ∷
    gives (pair (num 2) (num 2)) (Go 300) ∷ gives (pair (num 3) (num 3)) Done ∷ []
meet_of_recurs_and_spaced = refl

pub recurs_no_time : answers (leaf (Recurs 0)) (0 ∷ []) ≡ gives (num 0) Done ∷ []
recurs_no_time = refl

-- 30 ms of work each time: the boundaries of 100 ms are kept
pub fixed_on_time : answers (leaf (Fixed 100)) (0 ∷ 130 ∷ 230 ∷ []) ≡
    gives (num 0) (Go 100) ∷ gives (num 1) (Go 200) ∷ gives (num 2) (Go 300) ∷ []
fixed_on_time = refl

-- an event just as late as one interval is not behind
pub fixed_just_late : answers (leaf (Fixed 100)) (0 ∷ 200 ∷ []) ≡ gives (num 0) (Go 100) ∷ gives (num 1) (Go 300) ∷ []
fixed_just_late = refl

-- later than that the schedule is behind, and goes on at once
pub fixed_behind : answers (leaf (Fixed 100)) (0 ∷ 350 ∷ 600 ∷ []) ≡
    gives (num 0) (Go 100) ∷ gives (num 1) (Go 350) ∷ gives (num 2) (Go 600) ∷ []
fixed_behind = refl

pub fixed_at_the_end : answers (leaf (Fixed 100)) (4611686018427387903 ∷ 4611686018427387903 ∷ []) ≡
    gives (num 0) (Go 4611686018427387903) ∷ gives (num 1) (Go 4611686018427387903) ∷ []
fixed_at_the_end = refl

-- the event at which the first plan is done is the second plan's first
pub follow_crosses : answers (two Follow (leaf (Recurs 2)) (leaf (Spaced 50))) (0 ∷ 0 ∷ 0 ∷ 50 ∷ []) ≡
    gives (num 0) (Go 0) ∷ gives (num 1) (Go 0) ∷ gives (num 0) (Go 50) ∷ gives (num 1) (Go 100) ∷ []
follow_crosses = refl

pub follow_at_once : answers (two Follow (leaf (Recurs 0)) (leaf (Recurs 0))) (0 ∷ []) ≡ gives (num 0) Done ∷ []
follow_at_once = refl

pub forever_counts : answers (leaf Forever) (5 ∷ 5 ∷ 7 ∷ []) ≡
    gives (num 0) (Go 5) ∷ gives (num 1) (Go 5) ∷ gives (num 2) (Go 7) ∷ []
forever_counts = refl

pub spaced_from_five : answers (leaf (Spaced 10)) (5 ∷ []) ≡ gives (num 0) (Go 15) ∷ []
spaced_from_five = refl

pub spaced_to_the_end : answers (leaf (Spaced 4611686018427387903)) (5 ∷ [])
    ≡ gives (num 0) (Go 4611686018427387903) ∷ []
spaced_to_the_end = refl

pub fixed_with_no_time_between : answers (leaf (Fixed 100)) (5 ∷ 5 ∷ 5 ∷ []) ≡
    gives (num 0) (Go 105) ∷ gives (num 1) (Go 105) ∷ gives (num 2) (Go 105) ∷ []
fixed_with_no_time_between = refl

-- once behind, what counts is the start that was planned, 350, and not a boundary
pub fixed_catches_up : answers (leaf (Fixed 100)) (0 ∷ 350 ∷ 450 ∷ []) ≡
    gives (num 0) (Go 100) ∷ gives (num 1) (Go 350) ∷ gives (num 2) (Go 500) ∷ []
fixed_catches_up = refl

-- both sides go on counting after one is done
pub meet_counts_on : answers (two Meet (leaf (Recurs 0)) (leaf (Spaced 5))) (0 ∷ 0 ∷ []) ≡
    gives (pair (num 0) (num 0)) Done ∷ gives (pair (num 1) (num 1)) Done ∷ []
meet_counts_on = refl

-- the first interval of the second plan begins at the event that crosses
pub follow_into_fixed : answers (two Follow (leaf (Recurs 1)) (leaf (Fixed 100))) (0 ∷ 30 ∷ 140 ∷ []) ≡
    gives (num 0) (Go 0) ∷ gives (num 0) (Go 130) ∷ gives (num 1) (Go 230) ∷ []
follow_into_fixed = refl

pub follow_in_meet : answers (two Meet (two Follow (leaf (Recurs 1)) (leaf (Recurs 1))) (leaf (Spaced 10)))
    (0 ∷ 10 ∷ 20 ∷ []) ≡
    gives (pair (num 0) (num 0)) (Go 10) ∷ gives (pair (num 0) (num 1)) (Go 20) ∷
    gives (pair (num 1) (num 2)) Done ∷ []
follow_in_meet = refl

-- the crossing comes at the third event of the meet
pub late_follow_in_meet : answers (two Meet (leaf (Spaced 5)) (two Follow (leaf (Recurs 2)) (leaf (Recurs 1))))
    (0 ∷ 5 ∷ 10 ∷ 15 ∷ []) ≡
    gives (pair (num 0) (num 0)) (Go 5) ∷ gives (pair (num 1) (num 1)) (Go 10) ∷
    gives (pair (num 2) (num 0)) (Go 15) ∷ gives (pair (num 3) (num 1)) Done ∷ []
late_follow_in_meet = refl

-- the first plan is a meet, which is done at its third event
pub follow_after_meet : answers (two Follow (two Meet (leaf (Recurs 2)) (leaf (Spaced 10))) (leaf (Spaced 50)))
    (0 ∷ 10 ∷ 20 ∷ 70 ∷ []) ≡
    gives (pair (num 0) (num 0)) (Go 10) ∷ gives (pair (num 1) (num 1)) (Go 20) ∷
    gives (num 0) (Go 70) ∷ gives (num 1) (Go 120) ∷ []
follow_after_meet = refl

pub follow_of_follow : answers (two Follow (two Follow (leaf (Recurs 1)) (leaf (Recurs 1))) (leaf (Spaced 7)))
    (0 ∷ 0 ∷ 0 ∷ 7 ∷ []) ≡
    gives (num 0) (Go 0) ∷ gives (num 0) (Go 0) ∷ gives (num 0) (Go 7) ∷ gives (num 1) (Go 14) ∷ []
follow_of_follow = refl

pub follow_before_follow : answers (two Follow (leaf (Recurs 1)) (two Follow (leaf (Recurs 1)) (leaf (Spaced 7))))
    (0 ∷ 0 ∷ 0 ∷ 7 ∷ []) ≡
    gives (num 0) (Go 0) ∷ gives (num 0) (Go 0) ∷ gives (num 0) (Go 7) ∷ gives (num 1) (Go 14) ∷ []
follow_before_follow = refl

-- an event just as late as the length is outside
pub within_a_time : answers (one (Within 100) (leaf (Spaced 60))) (0 ∷ 60 ∷ 120 ∷ []) ≡
    gives (num 0) (Go 60) ∷ gives (num 1) (Go 120) ∷ gives (num 2) Done ∷ []
within_a_time = refl

pub within_to_the_border : answers (one (Within 100) (leaf Forever)) (7 ∷ 106 ∷ 107 ∷ []) ≡
    gives (num 0) (Go 7) ∷ gives (num 1) (Go 106) ∷ gives (num 2) Done ∷ []
within_to_the_border = refl

pub within_no_time : answers (one (Within 0) (leaf Forever)) (0 ∷ []) ≡ gives (num 0) Done ∷ []
within_no_time = refl

pub within_and_done_before : answers (one (Within 100) (leaf (Recurs 1))) (0 ∷ 10 ∷ []) ≡
    gives (num 0) (Go 0) ∷ gives (num 1) Done ∷ []
within_and_done_before = refl

-- it looks at the start: 450 after 900 is past 1000
pub ends_by_a_time : answers (one (EndsBy 1000) (leaf (Spaced 450))) (0 ∷ 450 ∷ 900 ∷ []) ≡
    gives (num 0) (Go 450) ∷ gives (num 1) (Go 900) ∷ gives (num 2) Done ∷ []
ends_by_a_time = refl

-- a start at the border itself goes on
pub ends_by_at_the_border : answers (one (EndsBy 100) (leaf (Fixed 100))) (0 ∷ 100 ∷ []) ≡
    gives (num 0) (Go 100) ∷ gives (num 1) Done ∷ []
ends_by_at_the_border = refl

-- the border is counted from the first event
pub ends_by_from_seven : answers (one (EndsBy 100) (leaf (Spaced 50))) (7 ∷ 57 ∷ 107 ∷ []) ≡
    gives (num 0) (Go 57) ∷ gives (num 1) (Go 107) ∷ gives (num 2) Done ∷ []
ends_by_from_seven = refl

pub ends_by_no_time : answers (one (EndsBy 0) (leaf Forever)) (0 ∷ 0 ∷ 1 ∷ []) ≡
    gives (num 0) (Go 0) ∷ gives (num 1) (Go 0) ∷ gives (num 2) Done ∷ []
ends_by_no_time = refl

-- a start at once is past the border where the event is
pub ends_by_with_late_events : answers (one (EndsBy 100) (leaf (Recurs 5))) (0 ∷ 60 ∷ 120 ∷ []) ≡
    gives (num 0) (Go 0) ∷ gives (num 1) (Go 60) ∷ gives (num 2) Done ∷ []
ends_by_with_late_events = refl

pub ends_by_and_done_before : answers (one (EndsBy 100) (leaf (Recurs 1))) (0 ∷ 10 ∷ []) ≡
    gives (num 0) (Go 0) ∷ gives (num 1) Done ∷ []
ends_by_and_done_before = refl

-- the border stops at the last moment, and so does the start
pub ends_by_the_end : answers (one (EndsBy 4611686018427387903) (leaf (Spaced 4611686018427387903))) (5 ∷ []) ≡
    gives (num 0) (Go 4611686018427387903) ∷ []
ends_by_the_end = refl

-- each event counts for itself: a later one may go on where an earlier one did not
pub ends_by_over_a_late_start : answers (one (EndsBy 100) (leaf (ExponentialMilli 150 1))) (0 ∷ 10 ∷ []) ≡
    gives (num 150) Done ∷ gives (num 0) (Go 10) ∷ []
ends_by_over_a_late_start = refl

pub nothing_of_forever : answers (one Nothing (leaf Forever)) (0 ∷ 3 ∷ []) ≡ gives unit (Go 0) ∷ gives unit (Go 3) ∷ []
nothing_of_forever = refl

pub once : answers (one Nothing (leaf (Recurs 1))) (0 ∷ 0 ∷ []) ≡ gives unit (Go 0) ∷ gives unit Done ∷ []
once = refl

-- time begins anew for a plan that follows another
pub within_after_follow : answers (two Follow (leaf (Recurs 1)) (one (Within 50) (leaf Forever)))
    (0 ∷ 60 ∷ 100 ∷ 110 ∷ []) ≡
    gives (num 0) (Go 0) ∷ gives (num 0) (Go 60) ∷ gives (num 1) (Go 100) ∷ gives (num 2) Done ∷ []
within_after_follow = refl
