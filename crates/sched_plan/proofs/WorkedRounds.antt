-- Worked examples of rounds, outputs, sequences and delays, computed with the definitions alone.
use Rattle.std.specs.Prelude.{◌≡◌, ℕ, ◌-◌, List, [], ◌∷◌, map, length, nat_lt, if◌then◌else◌, refl}
use Rattle.sched_time.specs.declared.starts.Decision.TheVariants.{Go, Done}
use Rattle.sched_plan.specs.Datum.{unit, num, pair, list, items_of}
use Rattle.sched_plan.specs.History.{last_moment, repeats, prefixes}
use Rattle.sched_plan.specs.Rounds.{blocks, last_block, last_run}
use Rattle.sched_plan.specs.Outputs.{outputs, earlier_outputs, fed}
use Rattle.sched_plan.specs.Sequences.{linear_at, exponential_at, milli_at, fibonacci_at, picked, decorrelated_after}
use Rattle.sched_plan.specs.Sequences.{decorrelated_at, unfold_at}
use Rattle.sched_plan.specs.Delays.{jittered, moved, added}
use Rattle.sched_plan.specs.Answer.{gathered}
use Rattle.sched_plan.specs.declared.nodes.Fold.TheVariants.{Sum, Count, Max, List as Listing}
use Rattle.sched_plan.specs.declared.history.Event.{Event}
use Rattle.sched_plan.specs.declared.history.Answer.{Answer}
use Rattle.sched_plan.proofs.Worked.{at, middle_word, gives}

-- the moments of each of these histories
abbrev moments : List (List Event) → List (List ℕ)
moments hs = map (λ h. map (λ e. e.now) h) hs

-- blocks begin at the first event and at the first one that is 100 or more after the block's first
blocks_of_a_hundred : moments (blocks 100 (at (0 ∷ 60 ∷ 120 ∷ 180 ∷ 220 ∷ 319 ∷ 320 ∷ []))) ≡
    (0 ∷ 60 ∷ []) ∷ (120 ∷ 180 ∷ []) ∷ (220 ∷ 319 ∷ []) ∷ (320 ∷ []) ∷ []
blocks_of_a_hundred = refl

-- the last block at each event in turn, with 60 between the events
last_blocks : moments (map (last_block 100) (prefixes (at (0 ∷ 60 ∷ 120 ∷ 180 ∷ [])))) ≡
    (0 ∷ []) ∷ (0 ∷ 60 ∷ []) ∷ (120 ∷ []) ∷ (120 ∷ 180 ∷ []) ∷ []
last_blocks = refl

no_block : moments (blocks 100 []) ≡ []
no_block = refl

-- with 60 or 99 between the events a run of less than 100 goes on for ever, with 100 each event begins a new one
last_runs : moments (map (last_run 100) (prefixes (at (0 ∷ 60 ∷ 120 ∷ 180 ∷ [])))) ≡
    (0 ∷ []) ∷ (0 ∷ 60 ∷ []) ∷ (0 ∷ 60 ∷ 120 ∷ []) ∷ (0 ∷ 60 ∷ 120 ∷ 180 ∷ []) ∷ []
last_runs = refl

last_runs_of_one : moments (map (last_run 100) (prefixes (at (0 ∷ 100 ∷ 199 ∷ 300 ∷ [])))) ≡
    (0 ∷ []) ∷ (100 ∷ []) ∷ (100 ∷ 199 ∷ []) ∷ (300 ∷ []) ∷ []
last_runs_of_one = refl

-- a schedule that goes on at once, so many times
abbrev recurring : ℕ → List Event → Answer
recurring count h = gives (num (repeats h)) (if nat_lt (length h - 1) count then Go (last_moment h) else Done)

-- the outputs so far, with the present one left out
earlier_of_three : map (earlier_outputs (recurring 3)) (prefixes (at (0 ∷ 0 ∷ 0 ∷ 0 ∷ 0 ∷ []))) ≡
    [] ∷ (num 0 ∷ []) ∷ (num 0 ∷ num 1 ∷ []) ∷ (num 0 ∷ num 1 ∷ num 2 ∷ []) ∷ (num 0 ∷ num 1 ∷ num 2 ∷ []) ∷ []
earlier_of_three = refl

sums_of_three : map (λ h. gathered Sum (earlier_outputs (recurring 3) h)) (prefixes (at (0 ∷ 0 ∷ 0 ∷ 0 ∷ []))) ≡
    num 0 ∷ num 0 ∷ num 1 ∷ num 3 ∷ []
sums_of_three = refl

counts_of_three : map (λ h. gathered Count (earlier_outputs (recurring 3) h)) (prefixes (at (0 ∷ 0 ∷ 0 ∷ 0 ∷ []))) ≡
    num 0 ∷ num 1 ∷ num 2 ∷ num 3 ∷ []
counts_of_three = refl

greatest_of_three : map (λ h. gathered Max (earlier_outputs (recurring 3) h)) (prefixes (at (0 ∷ 0 ∷ 0 ∷ 0 ∷ []))) ≡
    num 0 ∷ num 0 ∷ num 1 ∷ num 2 ∷ []
greatest_of_three = refl

-- what a fold has kept once two events went on
list_of_two : gathered Listing (outputs (recurring 2) (at (0 ∷ 0 ∷ []))) ≡ list (items_of (num 0 ∷ num 1 ∷ []))
list_of_two = refl

-- what is no number is counted and listed, and else passed over
unit_and_pair : gathered Sum (unit ∷ num 4 ∷ pair (num 1) (num 2) ∷ num 5 ∷ []) ≡ num 9
unit_and_pair = refl

greatest_past_a_pair : gathered Max (num 4 ∷ pair (num 7) (num 8) ∷ []) ≡ num 4
greatest_past_a_pair = refl

count_with_a_unit : gathered Count (unit ∷ num 4 ∷ []) ≡ num 2
count_with_a_unit = refl

sum_at_the_end : gathered Sum (num 4611686018427387903 ∷ num 1 ∷ []) ≡ num 4611686018427387903
sum_at_the_end = refl

-- the inputs of the second schedule are the outputs of the first
fed_counts : map (λ e. e.input) (fed (recurring 1) (at (5 ∷ 7 ∷ 9 ∷ []))) ≡ num 0 ∷ num 1 ∷ num 2 ∷ []
fed_counts = refl

fed_keeps_moments : moments (fed (recurring 1) (at (5 ∷ 7 ∷ 9 ∷ [])) ∷ []) ≡ (5 ∷ 7 ∷ 9 ∷ []) ∷ []
fed_keeps_moments = refl

linear_by_five : map (linear_at 5) (1 ∷ 2 ∷ 3 ∷ []) ≡ 5 ∷ 10 ∷ 15 ∷ []
linear_by_five = refl

exponential_by_two : map (exponential_at 100 2) (1 ∷ 2 ∷ 3 ∷ 4 ∷ []) ≡ 100 ∷ 200 ∷ 400 ∷ 800 ∷ []
exponential_by_two = refl

exponential_at_the_end : map (exponential_at 2305843009213693952 2) (1 ∷ 2 ∷ 3 ∷ []) ≡
    2305843009213693952 ∷ 4611686018427387903 ∷ 4611686018427387903 ∷ []
exponential_at_the_end = refl

milli_by_half_more : map (milli_at 100 1500) (1 ∷ 2 ∷ 3 ∷ 4 ∷ 5 ∷ []) ≡ 100 ∷ 150 ∷ 225 ∷ 337 ∷ 505 ∷ []
milli_by_half_more = refl

milli_that_falls : map (milli_at 3 500) (1 ∷ 2 ∷ 3 ∷ 4 ∷ []) ≡ 3 ∷ 1 ∷ 0 ∷ 0 ∷ []
milli_that_falls = refl

milli_at_the_end : map (milli_at 2305843009213693952 2000) (1 ∷ 2 ∷ 3 ∷ []) ≡
    2305843009213693952 ∷ 4611686018427387903 ∷ 4611686018427387903 ∷ []
milli_at_the_end = refl

fibonacci_by_ten : map (fibonacci_at 10) (1 ∷ 2 ∷ 3 ∷ 4 ∷ 5 ∷ 6 ∷ []) ≡ 10 ∷ 10 ∷ 20 ∷ 30 ∷ 50 ∷ 80 ∷ []
fibonacci_by_ten = refl

-- before the first word the delay is the base
decorrelated_by_words : map (decorrelated_at 100 3000 10000)
    ([] ∷ (middle_word ∷ []) ∷ (4294967295 ∷ middle_word ∷ []) ∷ []) ≡
    100 ∷ 200 ∷ 498 ∷ []
decorrelated_by_words = refl

-- what is picked is never the high end
picked_by_words : map (picked 100 300) (0 ∷ middle_word ∷ 4294967295 ∷ []) ≡ 100 ∷ 200 ∷ 299 ∷ []
picked_by_words = refl

-- one and a half times 333 is 499.5
decorrelated_rounds_down : decorrelated_after 100 1500 10000 333 middle_word ≡ 299
decorrelated_rounds_down = refl

unfold_by_three : map (unfold_at 1 3 2) (1 ∷ 2 ∷ 3 ∷ 4 ∷ []) ≡ 1 ∷ 5 ∷ 17 ∷ 53 ∷ []
unfold_by_three = refl

-- the least word gives the low ratio, the middle one the middle, and the greatest one just less than the high ratio
jittered_by_a_fifth : map (λ r. jittered 800 1200 r 1000) (0 ∷ middle_word ∷ 4294967295 ∷ []) ≡ 800 ∷ 1000 ∷ 1199 ∷ []
jittered_by_a_fifth = refl

jittered_to_the_half : jittered 0 1000 middle_word 4611686018427387903 ≡ 2305843009213693951
jittered_to_the_half = refl

moved_to_the_end : moved (added 4611686018427387903) 0 10 ≡ 4611686018427387903
moved_to_the_end = refl
