-- Worked examples of the leaves, computed with the definitions alone.
use Rattle.std.specs.Prelude.{◌≡◌, [], ◌∷◌, ◌++◌, refl}
use Rattle.sched_time.specs.declared.starts.Decision.TheVariants.{Go, Done}
use Rattle.sched_plan.specs.Datum.{unit, num, pair}
use Rattle.sched_plan.specs.Schedule.{leaf}
use Rattle.sched_plan.specs.declared.leaves.Leaf.TheVariants.{Windowed, Linear, Exponential, ExponentialMilli}
use Rattle.sched_plan.specs.declared.leaves.Leaf.TheVariants.{Fibonacci, Decorrelated, Elapsed, Identity, Unfold, Lone}
use Rattle.sched_plan.proofs.Worked.{answers, answers_on, gives, with_inputs, with_words}

-- 250 ms of work each time: the next boundary of 100 ms
windowed_late : answers (leaf (Windowed 100)) (0 ∷ 350 ∷ 650 ∷ []) ≡
    gives (num 0) (Go 100) ∷ gives (num 1) (Go 400) ∷ gives (num 2) (Go 700) ∷ []
windowed_late = refl

-- on a boundary the next one is meant
windowed_on_a_boundary : answers (leaf (Windowed 100)) (7 ∷ 107 ∷ 206 ∷ []) ≡
    gives (num 0) (Go 107) ∷ gives (num 1) (Go 207) ∷ gives (num 2) (Go 207) ∷ []
windowed_on_a_boundary = refl

linear_by_five : answers (leaf (Linear 5)) (0 ∷ 5 ∷ 15 ∷ []) ≡
    gives (num 5) (Go 5) ∷ gives (num 10) (Go 15) ∷ gives (num 15) (Go 30) ∷ []
linear_by_five = refl

exponential_by_three : answers (leaf (Exponential 10 3)) (0 ∷ 10 ∷ 40 ∷ []) ≡
    gives (num 10) (Go 10) ∷ gives (num 30) (Go 40) ∷ gives (num 90) (Go 130) ∷ []
exponential_by_three = refl

-- the doubled number would be 2^62, one past the end
exponential_to_the_end : answers (leaf (Exponential 2305843009213693952 2))
    (0 ∷ 2305843009213693952 ∷ 4611686018427387903 ∷ []) ≡
    gives (num 2305843009213693952) (Go 2305843009213693952) ∷
    gives (num 4611686018427387903) (Go 4611686018427387903) ∷
    gives (num 4611686018427387903) (Go 4611686018427387903) ∷ []
exponential_to_the_end = refl

-- half as much again each time, rounded down: 225 times 1.5 is 337.5
milli_by_half_more : answers (leaf (ExponentialMilli 100 1500)) (0 ∷ 100 ∷ 250 ∷ 475 ∷ 812 ∷ []) ≡
    gives (num 100) (Go 100) ∷ gives (num 150) (Go 250) ∷ gives (num 225) (Go 475) ∷
    gives (num 337) (Go 812) ∷ gives (num 505) (Go 1317) ∷ []
milli_by_half_more = refl

milli_by_half : answers (leaf (ExponentialMilli 3 500)) (0 ∷ 3 ∷ 4 ∷ 4 ∷ []) ≡
    gives (num 3) (Go 3) ∷ gives (num 1) (Go 4) ∷ gives (num 0) (Go 4) ∷ gives (num 0) (Go 4) ∷ []
milli_by_half = refl

milli_to_the_end : answers (leaf (ExponentialMilli 2305843009213693952 2000))
    (0 ∷ 2305843009213693952 ∷ 4611686018427387903 ∷ []) ≡
    gives (num 2305843009213693952) (Go 2305843009213693952) ∷
    gives (num 4611686018427387903) (Go 4611686018427387903) ∷
    gives (num 4611686018427387903) (Go 4611686018427387903) ∷ []
milli_to_the_end = refl

fibonacci_by_ten : answers (leaf (Fibonacci 10)) (0 ∷ 10 ∷ 20 ∷ 40 ∷ 70 ∷ []) ≡
    gives (num 10) (Go 10) ∷ gives (num 10) (Go 20) ∷ gives (num 20) (Go 40) ∷
    gives (num 30) (Go 70) ∷ gives (num 50) (Go 120) ∷ []
fibonacci_by_ten = refl

-- the middle of 100 and three times the delay before: of 300, 600, 1050 and 1725
decorrelated_by_the_middle_word : answers (leaf (Decorrelated 0 100 3000 10000)) (0 ∷ 200 ∷ 550 ∷ 1125 ∷ []) ≡
    gives (num 200) (Go 200) ∷ gives (num 350) (Go 550) ∷ gives (num 575) (Go 1125) ∷ gives (num 912) (Go 2037) ∷ []
decorrelated_by_the_middle_word = refl

decorrelated_by_the_least_word : answers_on (leaf (Decorrelated 0 100 3000 10000))
    (with_words (0 ∷ 0 ∷ 0 ∷ 0 ∷ []) (0 ∷ 100 ∷ [])) ≡
    gives (num 100) (Go 100) ∷ gives (num 100) (Go 200) ∷ []
decorrelated_by_the_least_word = refl

-- the greatest word of lane 2, then the least one and the middle one: the delays hang on the words so far
decorrelated_by_changing_words :
    answers_on (leaf (Decorrelated 2 100 3000 10000))
    (with_words (0 ∷ 0 ∷ 4294967295 ∷ 0 ∷ []) (0 ∷ 299 ∷ []) ++ with_words (9 ∷ 9 ∷ 0 ∷ 9 ∷ []) (1195 ∷ []) ++
    with_words (0 ∷ 0 ∷ 2147483648 ∷ 0 ∷ []) (1295 ∷ [])) ≡
    gives (num 299) (Go 299) ∷ gives (num 896) (Go 1195) ∷ gives (num 100) (Go 1295) ∷ gives (num 200) (Go 1495) ∷ []
decorrelated_by_changing_words = refl

decorrelated_up_to_a_most : answers (leaf (Decorrelated 0 100 3000 250)) (0 ∷ 200 ∷ 450 ∷ []) ≡
    gives (num 200) (Go 200) ∷ gives (num 250) (Go 450) ∷ gives (num 250) (Go 700) ∷ []
decorrelated_up_to_a_most = refl

-- three times the base would be past the end: the middle of 2 ^ 61 and 2 ^ 62 - 1, rounded down
decorrelated_to_the_end : answers (leaf (Decorrelated 0 2305843009213693952 3000 4611686018427387903))
    (0 ∷ 4611686018427387903 ∷ []) ≡
    gives (num 3458764513820540927) (Go 3458764513820540927)
    ∷ gives (num 3458764513820540927) (Go 4611686018427387903) ∷ []
decorrelated_to_the_end = refl

elapsed_from_five : answers (leaf Elapsed) (5 ∷ 15 ∷ 25 ∷ []) ≡
    gives (num 0) (Go 5) ∷ gives (num 10) (Go 15) ∷ gives (num 20) (Go 25) ∷ []
elapsed_from_five = refl

identity_of_inputs : answers_on (leaf Identity) (with_inputs (num 9 ∷ unit ∷ pair (num 1) (num 2) ∷ [])) ≡
    gives (num 9) (Go 0) ∷ gives unit (Go 0) ∷ gives (pair (num 1) (num 2)) (Go 0) ∷ []
identity_of_inputs = refl

unfold_by_three : answers (leaf (Unfold 1 3 2)) (0 ∷ 0 ∷ 0 ∷ 0 ∷ []) ≡
    gives (num 1) (Go 0) ∷ gives (num 5) (Go 0) ∷ gives (num 17) (Go 0) ∷ gives (num 53) (Go 0) ∷ []
unfold_by_three = refl

lone_of_fifty : answers (leaf (Lone 50)) (0 ∷ 50 ∷ 51 ∷ []) ≡
    gives (num 50) (Go 50) ∷ gives (num 0) Done ∷ gives (num 0) Done ∷ []
lone_of_fifty = refl
