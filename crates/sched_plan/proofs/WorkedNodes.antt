-- Worked examples of the nodes over other schedules, computed with the definitions alone.
use Rattle.std.specs.Prelude.{◌≡◌, ℕ, true, false, List, [], ◌∷◌, map, refl}
use Rattle.sched_time.specs.declared.starts.Decision.TheVariants.{Go, Done}
use Rattle.sched_plan.specs.Datum.{Datum, unit, num, pair, list, items_of}
use Rattle.sched_plan.specs.Schedule.{leaf, one, two}
use Rattle.sched_plan.specs.declared.leaves.Leaf.TheVariants.{Forever, Recurs, Spaced, Linear, Exponential, Identity}
use Rattle.sched_plan.specs.declared.leaves.Leaf.TheVariants.{Lone}
use Rattle.sched_plan.specs.declared.nodes.Side.TheVariants.{Input, Output}
use Rattle.sched_plan.specs.declared.nodes.Test.TheVariants.{Below, AtLeast, Equal}
use Rattle.sched_plan.specs.declared.nodes.Fold.TheVariants.{Sum, Count, Max, List as Listing}
use Rattle.sched_plan.specs.declared.nodes.One.TheVariants.{Gate, Gather, Add, Set, Cap, AddOut, Jitter, Within, Renew}
use Rattle.sched_plan.specs.declared.nodes.One.TheVariants.{RenewIdle, First, Second}
use Rattle.sched_plan.specs.declared.nodes.Two.TheVariants.{Meet, Join, Follow, Feed}
use Rattle.sched_plan.proofs.Worked.{answers, answers_on, gives, with_inputs, with_words}

-- the numbers as a list
abbrev numbers : List ℕ → Datum
numbers ns = list (items_of (map num ns))

-- one side is done at its second event, the other then too
join_with_lone : answers (two Join (leaf (Recurs 1)) (leaf (Lone 50))) (0 ∷ 0 ∷ []) ≡
    gives (pair (num 0) (num 50)) (Go 0) ∷ gives (pair (num 1) (num 0)) Done ∷ []
join_with_lone = refl

-- the side that is done goes on counting
join_counts_on : answers (two Join (leaf (Recurs 1)) (leaf (Spaced 50))) (0 ∷ 0 ∷ 50 ∷ 100 ∷ []) ≡
    gives (pair (num 0) (num 0)) (Go 0) ∷ gives (pair (num 1) (num 1)) (Go 50) ∷
    gives (pair (num 2) (num 2)) (Go 100) ∷ gives (pair (num 3) (num 3)) (Go 150) ∷ []
join_counts_on = refl

-- the second schedule's inputs are the first one's outputs
feed_to_a_gate : answers (two Feed (leaf (Spaced 10)) (one (Gate Input false Equal 2) (leaf Identity)))
    (0 ∷ 10 ∷ 20 ∷ []) ≡
    gives (num 0) (Go 10) ∷ gives (num 1) (Go 20) ∷ gives (num 2) Done ∷ []
feed_to_a_gate = refl

feed_over_join : answers (two Feed (two Join (leaf (Recurs 0)) (leaf (Lone 5))) (one Second (leaf Identity)))
    (0 ∷ 5 ∷ []) ≡
    gives (num 5) (Go 5) ∷ gives (num 0) Done ∷ []
feed_over_join = refl

gate_of_outputs : answers (one (Gate Output true Below 2) (leaf Forever)) (0 ∷ 0 ∷ 0 ∷ []) ≡
    gives (num 0) (Go 0) ∷ gives (num 1) (Go 0) ∷ gives (num 2) Done ∷ []
gate_of_outputs = refl

-- what is no number fails each test
gate_of_a_pair : answers (one (Gate Output true AtLeast 0) (two Meet (leaf Forever) (leaf Forever))) (0 ∷ []) ≡
    gives (pair (num 0) (num 0)) Done ∷ []
gate_of_a_pair = refl

gate_against_a_pair : answers (one (Gate Output false AtLeast 0) (two Meet (leaf Forever) (leaf Forever))) (0 ∷ []) ≡
    gives (pair (num 0) (num 0)) (Go 0) ∷ []
gate_against_a_pair = refl

gate_of_inputs : answers_on (one (Gate Input true AtLeast 5) (leaf Forever))
    (with_inputs (num 5 ∷ num 4 ∷ unit ∷ num 7 ∷ [])) ≡
    gives (num 0) (Go 0) ∷ gives (num 1) Done ∷ gives (num 2) Done ∷ gives (num 3) (Go 0) ∷ []
gate_of_inputs = refl

gather_list : answers (one (Gather Listing) (leaf (Recurs 2))) (0 ∷ 0 ∷ 0 ∷ []) ≡
    gives (numbers []) (Go 0) ∷ gives (numbers (0 ∷ [])) (Go 0) ∷ gives (numbers (0 ∷ 1 ∷ [])) Done ∷ []
gather_list = refl

gather_sum : answers (one (Gather Sum) (leaf (Recurs 3))) (0 ∷ 0 ∷ 0 ∷ 0 ∷ []) ≡
    gives (num 0) (Go 0) ∷ gives (num 0) (Go 0) ∷ gives (num 1) (Go 0) ∷ gives (num 3) Done ∷ []
gather_sum = refl

gather_count : answers (one (Gather Count) (leaf (Recurs 3))) (0 ∷ 0 ∷ 0 ∷ 0 ∷ []) ≡
    gives (num 0) (Go 0) ∷ gives (num 1) (Go 0) ∷ gives (num 2) (Go 0) ∷ gives (num 3) Done ∷ []
gather_count = refl

gather_max : answers (one (Gather Max) (leaf (Recurs 3))) (0 ∷ 0 ∷ 0 ∷ 0 ∷ []) ≡
    gives (num 0) (Go 0) ∷ gives (num 0) (Go 0) ∷ gives (num 1) (Go 0) ∷ gives (num 2) Done ∷ []
gather_max = refl

-- what a gate lets not through is not gathered
gather_past_a_gate : answers_on (one (Gather Listing) (one (Gate Input true Below 5) (leaf Identity)))
    (with_inputs (num 1 ∷ num 7 ∷ num 2 ∷ num 3 ∷ [])) ≡
    gives (numbers []) (Go 0) ∷ gives (numbers (1 ∷ [])) Done ∷ gives (numbers (1 ∷ [])) (Go 0)
    ∷ gives (numbers (1 ∷ 2 ∷ [])) (Go 0) ∷ []
gather_past_a_gate = refl

gather_of_gather : answers (one (Gather Listing) (one (Gather Listing) (leaf (Recurs 2)))) (0 ∷ 0 ∷ 0 ∷ []) ≡
    gives (list (items_of [])) (Go 0) ∷ gives (list (items_of (numbers [] ∷ []))) (Go 0) ∷
    gives (list (items_of (numbers [] ∷ numbers (0 ∷ []) ∷ []))) Done ∷ []
gather_of_gather = refl

first_of_a_pair : answers (one First (two Meet (leaf (Recurs 1)) (leaf (Spaced 10)))) (0 ∷ 10 ∷ []) ≡
    gives (num 0) (Go 10) ∷ gives (num 1) Done ∷ []
first_of_a_pair = refl

first_of_no_pair : answers (one First (leaf Forever)) (0 ∷ []) ≡ gives unit (Go 0) ∷ []
first_of_no_pair = refl

second_of_a_pair : answers (one Second (two Meet (leaf Forever) (leaf (Linear 5)))) (0 ∷ []) ≡ gives (num 5) (Go 5) ∷ []
second_of_a_pair = refl

add_to_a_delay : answers (one (Add 4611686018427387903) (leaf (Spaced 10))) (0 ∷ []) ≡
    gives (num 0) (Go 4611686018427387903) ∷ []
add_to_a_delay = refl

add_seven : answers (one (Add 7) (leaf (Recurs 1))) (5 ∷ 12 ∷ []) ≡ gives (num 0) (Go 12) ∷ gives (num 1) Done ∷ []
add_seven = refl

set_a_delay : answers (one (Set 7) (leaf (Recurs 1))) (0 ∷ 7 ∷ []) ≡ gives (num 0) (Go 7) ∷ gives (num 1) Done ∷ []
set_a_delay = refl

cap_a_delay : answers (one (Cap 30) (leaf (Linear 20))) (0 ∷ 20 ∷ 50 ∷ []) ≡
    gives (num 20) (Go 20) ∷ gives (num 40) (Go 50) ∷ gives (num 60) (Go 80) ∷ []
cap_a_delay = refl

add_the_output : answers (one AddOut (leaf (Linear 5))) (0 ∷ 10 ∷ 30 ∷ []) ≡
    gives (num 5) (Go 10) ∷ gives (num 10) (Go 30) ∷ gives (num 15) (Go 60) ∷ []
add_the_output = refl

jitter_with_the_least_word : answers_on (one (Jitter 0 800 1200) (leaf (Spaced 1000)))
    (with_words (0 ∷ 0 ∷ 0 ∷ 0 ∷ []) (0 ∷ [])) ≡
    gives (num 0) (Go 800) ∷ []
jitter_with_the_least_word = refl

jitter_with_the_middle_word : answers (one (Jitter 0 800 1200) (leaf (Spaced 1000))) (0 ∷ [])
    ≡ gives (num 0) (Go 1000) ∷ []
jitter_with_the_middle_word = refl

-- the greatest word gives just less than the greatest ratio, and is rounded down
jitter_with_the_greatest_word : answers_on (one (Jitter 2 800 1200) (leaf (Spaced 1000)))
    (with_words (0 ∷ 0 ∷ 4294967295 ∷ 0 ∷ []) (0 ∷ [])) ≡
    gives (num 0) (Go 1199) ∷ []
jitter_with_the_greatest_word = refl

jitter_of_the_longest : answers (one (Jitter 0 0 1000) (leaf (Spaced 4611686018427387903))) (0 ∷ []) ≡
    gives (num 0) (Go 2305843009213693951) ∷ []
jitter_of_the_longest = refl

-- 60 ms of work each time: a round has two events
renew_by_sixty : answers (one (Renew 100) (leaf (Recurs 2))) (0 ∷ 60 ∷ 120 ∷ 180 ∷ 240 ∷ []) ≡
    gives (num 0) (Go 0) ∷ gives (num 1) (Go 60) ∷ gives (num 0) (Go 120) ∷ gives (num 1) (Go 180)
    ∷ gives (num 0) (Go 240) ∷ []
renew_by_sixty = refl

renew_by_forty : answers (one (Renew 100) (leaf (Recurs 2))) (0 ∷ 40 ∷ 80 ∷ []) ≡
    gives (num 0) (Go 0) ∷ gives (num 1) (Go 40) ∷ gives (num 2) Done ∷ []
renew_by_forty = refl

-- an event just as late as the round is long begins the next one
renew_by_fifty : answers (one (Renew 100) (leaf (Recurs 2))) (0 ∷ 50 ∷ 100 ∷ []) ≡
    gives (num 0) (Go 0) ∷ gives (num 1) (Go 50) ∷ gives (num 0) (Go 100) ∷ []
renew_by_fifty = refl

renew_over_follow : answers (one (Renew 100) (two Follow (leaf (Recurs 1)) (leaf (Spaced 10))))
    (0 ∷ 20 ∷ 99 ∷ 100 ∷ 150 ∷ []) ≡
    gives (num 0) (Go 0) ∷ gives (num 0) (Go 30) ∷ gives (num 1) (Go 109) ∷
    gives (num 0) (Go 100) ∷ gives (num 0) (Go 160) ∷ []
renew_over_follow = refl

-- less than 100 ms between the events: one run
renew_idle_kept_busy : answers (one (RenewIdle 100) (leaf (Recurs 2))) (0 ∷ 99 ∷ 198 ∷ []) ≡
    gives (num 0) (Go 0) ∷ gives (num 1) (Go 99) ∷ gives (num 2) Done ∷ []
renew_idle_kept_busy = refl

renew_idle_at_the_border : answers (one (RenewIdle 100) (leaf (Recurs 2))) (0 ∷ 100 ∷ 200 ∷ []) ≡
    gives (num 0) (Go 0) ∷ gives (num 0) (Go 100) ∷ gives (num 0) (Go 200) ∷ []
renew_idle_at_the_border = refl

renew_idle_over_exponential : answers (one (RenewIdle 100) (leaf (Exponential 10 2))) (0 ∷ 10 ∷ 30 ∷ 130 ∷ 150 ∷ []) ≡
    gives (num 10) (Go 10) ∷ gives (num 20) (Go 30) ∷ gives (num 40) (Go 70) ∷ gives (num 10) (Go 140)
    ∷ gives (num 20) (Go 170) ∷ []
renew_idle_over_exponential = refl

-- follow in renew in gather: the third event of the first round is done, and the next round goes on
rounds_gathered : answers (one (Gather Count) (one (Renew 100) (two Follow (leaf (Recurs 1)) (leaf (Recurs 1)))))
    (0 ∷ 20 ∷ 40 ∷ 100 ∷ []) ≡
    gives (num 0) (Go 0) ∷ gives (num 1) (Go 20) ∷ gives (num 2) Done ∷ gives (num 2) (Go 100) ∷ []
rounds_gathered = refl

feed_of_pairs : answers
    (two Feed (two Meet (leaf Forever) (leaf (Spaced 10))) (one (Gather Listing) (one First (leaf Identity))))
    (0 ∷ 10 ∷ 20 ∷ []) ≡
    gives (numbers []) (Go 10) ∷ gives (numbers (0 ∷ [])) (Go 20) ∷ gives (numbers (0 ∷ 1 ∷ [])) (Go 30) ∷ []
feed_of_pairs = refl

-- a random word of 0 halves the delay; then it is capped, and then comes the output
shifts_one_over_another : answers_on (one AddOut (one (Cap 15) (one (Jitter 0 500 1500) (leaf (Linear 20)))))
    (with_words (0 ∷ 0 ∷ 0 ∷ 0 ∷ []) (0 ∷ 40 ∷ [])) ≡
    gives (num 20) (Go 30) ∷ gives (num 40) (Go 95) ∷ []
shifts_one_over_another = refl

within_of_a_shift : answers (one (Within 50) (one (Add 30) (leaf Forever))) (0 ∷ 30 ∷ 60 ∷ []) ≡
    gives (num 0) (Go 30) ∷ gives (num 1) (Go 60) ∷ gives (num 2) Done ∷ []
within_of_a_shift = refl
