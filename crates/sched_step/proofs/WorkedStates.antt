-- Worked examples of states, computed with the definitions alone: what a node keeps after a history, the value that
-- shows it, and where it fits.
use Rattle.std.specs.Prelude.{◌≡◌, ℕ, true, false, List, [], ◌∷◌, Some, refl}
use Rattle.sched_plan.specs.Datum.{Datum, unit, num, pair, list, items_of}
use Rattle.sched_plan.specs.Schedule.{Schedule, leaf, one, two}
use Rattle.sched_plan.specs.declared.leaves.Leaf.TheVariants.{Forever, Recurs, Spaced, Fixed, Windowed, Linear}
use Rattle.sched_plan.specs.declared.leaves.Leaf.TheVariants.{Exponential, ExponentialMilli, Fibonacci, Decorrelated}
use Rattle.sched_plan.specs.declared.leaves.Leaf.TheVariants.{Elapsed, Identity, Unfold, Lone}
use Rattle.sched_plan.specs.declared.nodes.Side.TheVariants.{Output}
use Rattle.sched_plan.specs.declared.nodes.Test.TheVariants.{Below}
use Rattle.sched_plan.specs.declared.nodes.Fold.TheVariants.{Sum, Count, Max, List as Listing}
use Rattle.sched_plan.specs.declared.nodes.One.TheVariants.{Gate, Gather, Add, Set, Cap, AddOut, Jitter, Within, EndsBy}
use Rattle.sched_plan.specs.declared.nodes.One.TheVariants.{Renew, RenewIdle, First, Second, Nothing}
use Rattle.sched_plan.specs.declared.nodes.Two.TheVariants.{Meet, Join, Follow, Feed}
use Rattle.sched_plan.proofs.Worked.{at}
use Rattle.sched_step.specs.declared.leaves.LeafState.TheVariants.{Counted, Planned, Windows, Product, Scaled, Summands}
use Rattle.sched_step.specs.declared.leaves.LeafState.TheVariants.{Waited, Started, Blank, Unfolded, Spent}
use Rattle.sched_step.specs.declared.turns.Turn.TheVariants.{Together, Uncrossed, Crossed}
use Rattle.sched_step.specs.Progress.{none_kept, since, round_since, last_at, total, listed, Progress, at_leaf, at_one}
use Rattle.sched_step.specs.Progress.{at_two, view_of, fits}
use Rattle.sched_step.specs.StateOf.{state_of}

-- how far the schedule has come after events at these moments, and the value that shows it
abbrev after : Schedule → List ℕ → Progress
after s ms = state_of s (at ms)

abbrev shown : Schedule → List ℕ → Datum
shown s ms = view_of (after s ms)

-- a leaf that counted so many events
abbrev counted : ℕ → Progress
counted n = at_leaf (Counted n)

-- Leaves that count.

forever_counts : after (leaf Forever) (7 ∷ 20 ∷ []) ≡ counted 2
forever_counts = refl

forever_shown : shown (leaf Forever) (7 ∷ 20 ∷ []) ≡ num 2
forever_shown = refl

recurs_counts_on_when_done : after (leaf (Recurs 1)) (0 ∷ 0 ∷ 0 ∷ []) ≡ counted 3
recurs_counts_on_when_done = refl

spaced_counts : after (leaf (Spaced 50)) (0 ∷ 50 ∷ []) ≡ counted 2
spaced_counts = refl

linear_counts : after (leaf (Linear 5)) (0 ∷ 5 ∷ 15 ∷ []) ≡ counted 3
linear_counts = refl

-- Leaves that keep moments.

fixed_first : shown (leaf (Fixed 100)) [] ≡ pair (num 0) unit
fixed_first = refl

fixed_after_one : after (leaf (Fixed 100)) (7 ∷ []) ≡ at_leaf (Planned 1 (Some (7, 107)))
fixed_after_one = refl

fixed_shown : shown (leaf (Fixed 100)) (7 ∷ []) ≡ pair (num 1) (pair (num 7) (num 107))
fixed_shown = refl

fixed_on_time : after (leaf (Fixed 100)) (7 ∷ 107 ∷ []) ≡ at_leaf (Planned 2 (Some (7, 207)))
fixed_on_time = refl

fixed_behind : after (leaf (Fixed 100)) (7 ∷ 350 ∷ []) ≡ at_leaf (Planned 2 (Some (7, 350)))
fixed_behind = refl

windowed_first : shown (leaf (Windowed 100)) [] ≡ pair (num 0) unit
windowed_first = refl

windowed_after_two : after (leaf (Windowed 100)) (7 ∷ 20 ∷ []) ≡ at_leaf (Windows 2 (Some 7))
windowed_after_two = refl

windowed_shown : shown (leaf (Windowed 100)) (7 ∷ 20 ∷ []) ≡ pair (num 2) (num 7)
windowed_shown = refl

elapsed_first : shown (leaf Elapsed) [] ≡ unit
elapsed_first = refl

elapsed_after_two : after (leaf Elapsed) (7 ∷ 20 ∷ []) ≡ at_leaf (Started (Some 7))
elapsed_after_two = refl

elapsed_shown : shown (leaf Elapsed) (7 ∷ 20 ∷ []) ≡ num 7
elapsed_shown = refl

-- Leaves that keep what the next events put out.

exponential_first : after (leaf (Exponential 3 2)) [] ≡ at_leaf (Product 3)
exponential_first = refl

exponential_after_two : after (leaf (Exponential 3 2)) (0 ∷ 3 ∷ []) ≡ at_leaf (Product 12)
exponential_after_two = refl

exponential_at_the_end : shown (leaf (Exponential 2305843009213693952 2)) (0 ∷ 0 ∷ []) ≡ num 4611686018427387903
exponential_at_the_end = refl

milli_first : after (leaf (ExponentialMilli 100 1500)) [] ≡ at_leaf (Scaled 100)
milli_first = refl

milli_after_three : after (leaf (ExponentialMilli 100 1500)) (0 ∷ 100 ∷ 250 ∷ []) ≡ at_leaf (Scaled 337)
milli_after_three = refl

milli_shown : shown (leaf (ExponentialMilli 100 1500)) (0 ∷ 100 ∷ 250 ∷ []) ≡ num 337
milli_shown = refl

fibonacci_first : after (leaf (Fibonacci 10)) [] ≡ at_leaf (Summands 10 10)
fibonacci_first = refl

fibonacci_after_three : after (leaf (Fibonacci 10)) (0 ∷ 10 ∷ 20 ∷ []) ≡ at_leaf (Summands 30 50)
fibonacci_after_three = refl

fibonacci_shown : shown (leaf (Fibonacci 10)) (0 ∷ 10 ∷ 20 ∷ []) ≡ pair (num 30) (num 50)
fibonacci_shown = refl

unfold_first : after (leaf (Unfold 1 3 2)) [] ≡ at_leaf (Unfolded 1)
unfold_first = refl

unfold_after_two : after (leaf (Unfold 1 3 2)) (0 ∷ 0 ∷ []) ≡ at_leaf (Unfolded 17)
unfold_after_two = refl

unfold_shown : shown (leaf (Unfold 1 3 2)) (0 ∷ 0 ∷ []) ≡ num 17
unfold_shown = refl

identity_keeps_nothing : after (leaf Identity) (0 ∷ 0 ∷ []) ≡ at_leaf Blank
identity_keeps_nothing = refl

identity_shown : shown (leaf Identity) (0 ∷ 0 ∷ []) ≡ unit
identity_shown = refl

lone_first : after (leaf (Lone 50)) [] ≡ at_leaf (Spent false)
lone_first = refl

lone_first_shown : shown (leaf (Lone 50)) [] ≡ num 0
lone_first_shown = refl

lone_after_two : after (leaf (Lone 50)) (0 ∷ 50 ∷ []) ≡ at_leaf (Spent true)
lone_after_two = refl

lone_shown : shown (leaf (Lone 50)) (0 ∷ 50 ∷ []) ≡ num 1
lone_shown = refl

-- A leaf that keeps what the last event put out.

decorrelated_first : shown (leaf (Decorrelated 0 100 3000 10000)) [] ≡ num 100
decorrelated_first = refl

decorrelated_after_one : after (leaf (Decorrelated 0 100 3000 10000)) (0 ∷ []) ≡ at_leaf (Waited 200)
decorrelated_after_one = refl

decorrelated_after_two : after (leaf (Decorrelated 0 100 3000 10000)) (0 ∷ 200 ∷ []) ≡ at_leaf (Waited 350)
decorrelated_after_two = refl

decorrelated_shown : shown (leaf (Decorrelated 0 100 3000 10000)) (0 ∷ []) ≡ num 200
decorrelated_shown = refl

-- Nodes over one schedule that keep nothing.

gate_keeps_nothing : after (one (Gate Output true Below 1) (leaf Forever)) (0 ∷ 0 ∷ []) ≡ at_one none_kept (counted 2)
gate_keeps_nothing = refl

gate_shown : shown (one (Gate Output true Below 1) (leaf Forever)) (0 ∷ 0 ∷ []) ≡ num 2
gate_shown = refl

add_keeps_nothing : after (one (Add 3) (leaf (Spaced 10))) (0 ∷ []) ≡ at_one none_kept (counted 1)
add_keeps_nothing = refl

set_keeps_nothing : after (one (Set 3) (leaf (Spaced 10))) (0 ∷ []) ≡ at_one none_kept (counted 1)
set_keeps_nothing = refl

cap_keeps_nothing : after (one (Cap 3) (leaf (Spaced 10))) (0 ∷ []) ≡ at_one none_kept (counted 1)
cap_keeps_nothing = refl

add_out_keeps_nothing : after (one AddOut (leaf (Linear 5))) (0 ∷ []) ≡ at_one none_kept (counted 1)
add_out_keeps_nothing = refl

jitter_keeps_nothing : after (one (Jitter 0 800 1200) (leaf (Spaced 10))) (0 ∷ []) ≡ at_one none_kept (counted 1)
jitter_keeps_nothing = refl

first_keeps_nothing : after (one First (leaf Elapsed)) (7 ∷ []) ≡ at_one none_kept (at_leaf (Started (Some 7)))
first_keeps_nothing = refl

second_keeps_nothing : after (one Second (leaf Elapsed)) (7 ∷ []) ≡ at_one none_kept (at_leaf (Started (Some 7)))
second_keeps_nothing = refl

nothing_keeps_nothing : after (one Nothing (leaf Elapsed)) (7 ∷ []) ≡ at_one none_kept (at_leaf (Started (Some 7)))
nothing_keeps_nothing = refl

nothing_shown : shown (one Nothing (leaf Elapsed)) (7 ∷ []) ≡ num 7
nothing_shown = refl

-- Folds: over the outputs at the events at which the schedule went on, also the last one.

sum_first : after (one (Gather Sum) (leaf (Recurs 3))) [] ≡ at_one (total 0) (counted 0)
sum_first = refl

sum_after_three : after (one (Gather Sum) (leaf (Recurs 3))) (0 ∷ 0 ∷ 0 ∷ []) ≡ at_one (total 3) (counted 3)
sum_after_three = refl

sum_leaves_the_last_out : after (one (Gather Sum) (leaf (Recurs 3))) (0 ∷ 0 ∷ 0 ∷ 0 ∷ []) ≡ at_one (total 3) (counted 4)
sum_leaves_the_last_out = refl

sum_shown : shown (one (Gather Sum) (leaf (Recurs 3))) (0 ∷ 0 ∷ 0 ∷ []) ≡ pair (num 3) (num 3)
sum_shown = refl

count_after_three : after (one (Gather Count) (leaf (Recurs 2))) (0 ∷ 0 ∷ 0 ∷ []) ≡ at_one (total 2) (counted 3)
count_after_three = refl

greatest_after_three : after (one (Gather Max) (leaf (Recurs 2))) (0 ∷ 0 ∷ 0 ∷ []) ≡ at_one (total 1) (counted 3)
greatest_after_three = refl

list_first : shown (one (Gather Listing) (leaf (Recurs 2))) [] ≡ pair (list (items_of [])) (num 0)
list_first = refl

list_after_two : after (one (Gather Listing) (leaf (Recurs 2))) (0 ∷ 0 ∷ [])
    ≡ at_one (listed (num 0 ∷ num 1 ∷ [])) (counted 2)
list_after_two = refl

list_shown : shown (one (Gather Listing) (leaf (Recurs 2))) (0 ∷ 0 ∷ [])
    ≡ pair (list (items_of (num 0 ∷ num 1 ∷ []))) (num 2)
list_shown = refl

-- Nodes that keep a moment.

within_first : shown (one (Within 50) (leaf (Spaced 10))) [] ≡ pair unit (num 0)
within_first = refl

within_after_two : after (one (Within 50) (leaf (Spaced 10))) (7 ∷ 20 ∷ []) ≡ at_one (since (Some 7)) (counted 2)
within_after_two = refl

within_shown : shown (one (Within 50) (leaf (Spaced 10))) (7 ∷ 20 ∷ []) ≡ pair (num 7) (num 2)
within_shown = refl

ends_by_first : shown (one (EndsBy 1000) (leaf (Spaced 450))) [] ≡ pair unit (num 0)
ends_by_first = refl

ends_by_after_two : after (one (EndsBy 1000) (leaf (Spaced 450))) (7 ∷ 457 ∷ []) ≡ at_one (since (Some 7)) (counted 2)
ends_by_after_two = refl

ends_by_shown : shown (one (EndsBy 1000) (leaf (Spaced 450))) (7 ∷ []) ≡ pair (num 7) (num 1)
ends_by_shown = refl

-- 120 comes 100 or more after the first moment of the round, and 60 does not
renew_in_its_round : after (one (Renew 100) (leaf (Recurs 2))) (0 ∷ 60 ∷ []) ≡ at_one (round_since (Some 0)) (counted 2)
renew_in_its_round = refl

renew_begins_a_round : after (one (Renew 100) (leaf (Recurs 2))) (0 ∷ 60 ∷ 120 ∷ [])
    ≡ at_one (round_since (Some 120)) (counted 1)
renew_begins_a_round = refl

renew_shown : shown (one (Renew 100) (leaf (Recurs 2))) (0 ∷ 60 ∷ 120 ∷ []) ≡ pair (num 120) (num 1)
renew_shown = refl

-- each comes less than 100 after the one before it
renew_idle_goes_on : after (one (RenewIdle 100) (leaf (Recurs 2))) (0 ∷ 60 ∷ 120 ∷ [])
    ≡ at_one (last_at (Some 120)) (counted 3)
renew_idle_goes_on = refl

renew_idle_begins_anew : after (one (RenewIdle 100) (leaf (Recurs 2))) (0 ∷ 100 ∷ [])
    ≡ at_one (last_at (Some 100)) (counted 1)
renew_idle_begins_anew = refl

renew_idle_shown : shown (one (RenewIdle 100) (leaf (Recurs 2))) (0 ∷ 99 ∷ []) ≡ pair (num 99) (num 2)
renew_idle_shown = refl

-- Nodes over two schedules.

meet_keeps_both : after (two Meet (leaf (Recurs 3)) (leaf Elapsed)) (7 ∷ 20 ∷ []) ≡
    at_two Together (counted 2) (at_leaf (Started (Some 7)))
meet_keeps_both = refl

meet_shown : shown (two Meet (leaf (Recurs 3)) (leaf Elapsed)) (7 ∷ 20 ∷ []) ≡ pair (num 2) (num 7)
meet_shown = refl

-- the side that is done counts on
join_keeps_both : after (two Join (leaf (Recurs 1)) (leaf (Spaced 50))) (0 ∷ 0 ∷ 50 ∷ [])
    ≡ at_two Together (counted 3) (counted 3)
join_keeps_both = refl

follow_before_its_crossing : after (two Follow (leaf (Recurs 2)) (leaf (Spaced 50))) (0 ∷ 0 ∷ []) ≡
    at_two Uncrossed (counted 2) (counted 0)
follow_before_its_crossing = refl

follow_before_shown : shown (two Follow (leaf (Recurs 2)) (leaf (Spaced 50))) (0 ∷ 0 ∷ []) ≡
    pair (num 0) (pair (num 2) (num 0))
follow_before_shown = refl

follow_at_its_crossing : after (two Follow (leaf (Recurs 2)) (leaf (Spaced 50))) (0 ∷ 0 ∷ 0 ∷ []) ≡
    at_two Crossed (counted 3) (counted 1)
follow_at_its_crossing = refl

follow_shown : shown (two Follow (leaf (Recurs 2)) (leaf (Spaced 50))) (0 ∷ 0 ∷ 0 ∷ [])
    ≡ pair (num 1) (pair (num 3) (num 1))
follow_shown = refl

-- the first schedule stays as it was at the crossing
follow_past_its_crossing : after (two Follow (leaf (Recurs 2)) (leaf (Spaced 50))) (0 ∷ 0 ∷ 0 ∷ 50 ∷ []) ≡
    at_two Crossed (counted 3) (counted 2)
follow_past_its_crossing = refl

-- the second schedule has the first one's outputs 0, 1 and 2 as inputs
feed_hands_outputs_on : after (two Feed (leaf (Spaced 10)) (one (Gather Sum) (leaf Identity))) (0 ∷ 10 ∷ 20 ∷ []) ≡
    at_two Together (counted 3) (at_one (total 3) (at_leaf Blank))
feed_hands_outputs_on = refl

feed_shown : shown (two Feed (leaf (Spaced 10)) (one (Gather Sum) (leaf Identity))) (0 ∷ 10 ∷ 20 ∷ []) ≡
    pair (num 3) (pair (num 3) unit)
feed_shown = refl

-- Where a state fits: from its kept moment on, and with a schedule of its shape.

fixed_fits_from_its_first_moment : fits (leaf (Fixed 100)) (after (leaf (Fixed 100)) (7 ∷ [])) 7 ≡ true
fixed_fits_from_its_first_moment = refl

fixed_does_not_fit_before : fits (leaf (Fixed 100)) (after (leaf (Fixed 100)) (7 ∷ [])) 6 ≡ false
fixed_does_not_fit_before = refl

fixed_does_not_fit_forever : fits (leaf Forever) (after (leaf (Fixed 100)) (7 ∷ [])) 7 ≡ false
fixed_does_not_fit_forever = refl

fixed_fits_at_first : fits (leaf (Fixed 100)) (after (leaf (Fixed 100)) []) 0 ≡ true
fixed_fits_at_first = refl

counts_fit_at_each_moment : fits (leaf (Recurs 3)) (after (leaf (Spaced 50)) (7 ∷ [])) 0 ≡ true
counts_fit_at_each_moment = refl

windowed_does_not_fit_before : fits (leaf (Windowed 100)) (after (leaf (Windowed 100)) (7 ∷ 20 ∷ [])) 6 ≡ false
windowed_does_not_fit_before = refl

elapsed_fits_below_a_node : fits (one Nothing (leaf Elapsed)) (after (one Nothing (leaf Elapsed)) (7 ∷ [])) 7 ≡ true
elapsed_fits_below_a_node = refl

elapsed_does_not_fit_before : fits (one Nothing (leaf Elapsed)) (after (one Nothing (leaf Elapsed)) (7 ∷ [])) 6 ≡ false
elapsed_does_not_fit_before = refl

within_fits : fits (one (Within 50) (leaf Forever)) (after (one (Within 50) (leaf Forever)) (7 ∷ 20 ∷ [])) 7 ≡ true
within_fits = refl

within_does_not_fit_before : fits (one (Within 50) (leaf Forever))
    (after (one (Within 50) (leaf Forever)) (7 ∷ 20 ∷ [])) 6 ≡ false
within_does_not_fit_before = refl

ends_by_fits_within : fits (one (Within 50) (leaf Forever))
    (after (one (EndsBy 50) (leaf Forever)) (7 ∷ 20 ∷ [])) 7 ≡ true
ends_by_fits_within = refl

ends_by_does_not_fit_before : fits (one (EndsBy 50) (leaf Forever))
    (after (one (EndsBy 50) (leaf Forever)) (7 ∷ 20 ∷ [])) 6 ≡ false
ends_by_does_not_fit_before = refl

decorrelated_fits : fits (leaf (Decorrelated 0 1 3000 9)) (after (leaf (Decorrelated 3 100 2000 500)) (7 ∷ [])) 0 ≡ true
decorrelated_fits = refl

decorrelated_does_not_fit_exponential : fits (leaf (ExponentialMilli 1 3000))
    (after (leaf (Decorrelated 0 1 3000 9)) (7 ∷ [])) 7 ≡ false
decorrelated_does_not_fit_exponential = refl

renew_does_not_fit_before : fits (one (Renew 100) (leaf Forever))
    (after (one (Renew 100) (leaf Forever)) (0 ∷ 120 ∷ [])) 119 ≡ false
renew_does_not_fit_before = refl

renew_idle_fits : fits (one (RenewIdle 100) (leaf Forever))
    (after (one (RenewIdle 100) (leaf Forever)) (0 ∷ 99 ∷ [])) 99 ≡ true
renew_idle_fits = refl

renew_idle_does_not_fit_before : fits (one (RenewIdle 100) (leaf Forever))
    (after (one (RenewIdle 100) (leaf Forever)) (0 ∷ 99 ∷ [])) 98 ≡ false
renew_idle_does_not_fit_before = refl

sum_fits_count : fits (one (Gather Count) (leaf Forever)) (after (one (Gather Sum) (leaf Forever)) (0 ∷ [])) 0 ≡ true
sum_fits_count = refl

list_does_not_fit_sum : fits (one (Gather Sum) (leaf Forever))
    (after (one (Gather Listing) (leaf Forever)) (0 ∷ [])) 0 ≡ false
list_does_not_fit_sum = refl

gate_fits_add : fits (one (Add 3) (leaf Forever))
    (after (one (Gate Output true Below 1) (leaf Forever)) (0 ∷ [])) 0 ≡ true
gate_fits_add = refl

meet_fits_join : fits (two Join (leaf Forever) (leaf Elapsed))
    (after (two Meet (leaf Forever) (leaf Elapsed)) (7 ∷ [])) 7 ≡ true
meet_fits_join = refl

meet_does_not_fit_follow : fits (two Follow (leaf Forever) (leaf Forever))
    (after (two Meet (leaf Forever) (leaf Forever)) (0 ∷ [])) 0 ≡ false
meet_does_not_fit_follow = refl

follow_fits : fits (two Follow (leaf Elapsed) (leaf Elapsed))
    (after (two Follow (leaf Elapsed) (leaf Elapsed)) (7 ∷ [])) 7 ≡ true
follow_fits = refl

feed_does_not_fit_before : fits (two Feed (leaf Forever) (leaf Elapsed))
    (after (two Feed (leaf Forever) (leaf Elapsed)) (7 ∷ [])) 6 ≡ false
feed_does_not_fit_before = refl
