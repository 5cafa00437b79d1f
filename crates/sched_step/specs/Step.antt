-- One step as the code makes it, from the kept progress alone. That it meets the definition over whole histories is
-- what `step` ensures.
use Rattle.std.specs.Prelude.{◌≡◌, ℕ, ◌+◌, ◌-◌, ◌*◌, ◌/◌, min, max, Bool, true, false, if◌then◌else◌, nat_lt, nat_le}
use Rattle.std.specs.Prelude.{List, [], ◌∷◌, ◌++◌, get_or, Option, Some, None}
use Rattle.sched_time.specs.Capped.{capped}
use Rattle.sched_time.specs.declared.starts.Decision.{Decision}
use Rattle.sched_time.specs.declared.starts.Decision.TheVariants.{Go, Done}
use Rattle.sched_plan.specs.Datum.{Datum, num, list, items_of, first_part, second_part}
use Rattle.sched_plan.specs.Schedule.{Schedule, leaf, one, two}
use Rattle.sched_plan.specs.Outputs.{goes_on, number_of, with_input}
use Rattle.sched_plan.specs.Sequences.{decorrelated_after}
use Rattle.sched_plan.specs.Delays.{added, added_out, jittered}
use Rattle.sched_plan.specs.Gates.{gated}
use Rattle.sched_plan.specs.Changes.{ended_where, goes_past, delayed, giving, silent}
use Rattle.sched_plan.specs.Answer.{meet_answer, join_answer, feed_answer, is_done, next_boundary}
use Rattle.sched_plan.specs.declared.leaves.Leaf.{Leaf}
use Rattle.sched_plan.specs.declared.leaves.Leaf.TheVariants.{Forever, Recurs, Spaced, Fixed, Windowed, Linear}
use Rattle.sched_plan.specs.declared.leaves.Leaf.TheVariants.{Exponential, ExponentialMilli, Fibonacci, Decorrelated}
use Rattle.sched_plan.specs.declared.leaves.Leaf.TheVariants.{Elapsed, Identity, Unfold, Lone}
use Rattle.sched_plan.specs.declared.nodes.Fold.{Fold}
use Rattle.sched_plan.specs.declared.nodes.Fold.TheVariants.{Sum, Count, Max, List as Listing}
use Rattle.sched_plan.specs.declared.nodes.One.{One}
use Rattle.sched_plan.specs.declared.nodes.One.TheVariants.{Gate, Gather, Add, Set, Cap, AddOut, Jitter, Within, EndsBy}
use Rattle.sched_plan.specs.declared.nodes.One.TheVariants.{Renew, RenewIdle, First, Second, Nothing}
use Rattle.sched_plan.specs.declared.nodes.Two.{Two}
use Rattle.sched_plan.specs.declared.nodes.Two.TheVariants.{Meet, Join, Follow, Feed}
use Rattle.sched_plan.specs.declared.history.Event.{Event}
use Rattle.sched_plan.specs.declared.history.Answer.{Answer}
use Rattle.sched_step.specs.declared.leaves.LeafState.{LeafState}
use Rattle.sched_step.specs.declared.leaves.LeafState.TheVariants.{Counted, Planned, Windows, Product, Scaled, Summands}
use Rattle.sched_step.specs.declared.leaves.LeafState.TheVariants.{Waited, Started, Blank, Unfolded, Spent}
use Rattle.sched_step.specs.declared.turns.Turn.{Turn}
use Rattle.sched_step.specs.declared.turns.Turn.TheVariants.{Together, Uncrossed, Crossed}
use Rattle.sched_step.specs.Progress.{Kept, none_kept, since, round_since, last_at, total, listed, Progress, at_leaf}
use Rattle.sched_step.specs.Progress.{at_one, at_two}
use Rattle.sched_step.specs.StateOf.{leaf_state, first_kept, first_turn, state_of}

-- the answer of this output and decision
abbrev pub answered : Datum → Decision → Answer
answered output decision = record { output = output; decision = decision }

-- Leaves.

-- the moment that is kept, else that of this event
abbrev pub kept_or_now : Option ℕ → ℕ → ℕ
kept_or_now None now = now
kept_or_now (Some m) now = m

-- how many events a leaf has counted, if it counts them
abbrev pub count_of : LeafState → ℕ
count_of (Counted n) = n
count_of (Planned n p) = n
count_of (Windows n m) = n
count_of s = 0

-- what a leaf puts out at the next event, if it keeps that
abbrev pub output_next : LeafState → ℕ
output_next (Product x) = x
output_next (Scaled x) = x
output_next (Summands x y) = x
output_next (Unfolded x) = x
output_next s = 0

-- and at the one after
abbrev pub output_after : LeafState → ℕ
output_after (Summands x y) = y
output_after s = 0

-- what a leaf put out at the last event, if it keeps that
abbrev pub output_before : LeafState → ℕ
output_before (Waited x) = x
output_before s = 0

-- the first moment, if a leaf keeps it
abbrev pub started_of : LeafState → Option ℕ
started_of (Windows n m) = m
started_of (Started m) = m
started_of s = None

-- the first moment and the start planned last, if the leaf keeps them
abbrev pub planned_of : LeafState → Option (ℕ × ℕ)
planned_of (Planned n p) = p
planned_of s = None

-- whether the one event of a lone schedule is past
abbrev pub lone_is_past : LeafState → Bool
lone_is_past (Spent b) = b
lone_is_past s = false

-- the next start of `fixed d`, from the first moment and the start planned last
abbrev pub next_fixed : ℕ → Option (ℕ × ℕ) → ℕ → ℕ
next_fixed d None now = capped (now + d)
next_fixed d (Some p) now = if nat_lt (capped (p.1 + d)) now then now else next_boundary d p.0 now

-- the first moment of `fixed d`: the one that is kept, else that of this event
abbrev pub first_planned : Option (ℕ × ℕ) → ℕ → ℕ
first_planned None now = now
first_planned (Some p) now = p.0

-- the delay that decorrelated jitter has come to, by the word of the lane
abbrev pub next_decorrelated : ℕ → ℕ → ℕ → ℕ → ℕ → Event → ℕ
next_decorrelated lane base thousandths most before e =
    decorrelated_after base thousandths most before (get_or e.words lane 0)

-- a leaf's state after one more event
abbrev pub leaf_next : Leaf → LeafState → Event → LeafState
leaf_next Forever s e = Counted (capped (count_of s + 1))
leaf_next (Recurs count) s e = Counted (capped (count_of s + 1))
leaf_next (Spaced delay) s e = Counted (capped (count_of s + 1))
leaf_next (Fixed d) s e =
    Planned (capped (count_of s + 1)) (Some (first_planned (planned_of s) e.now, next_fixed d (planned_of s) e.now))
leaf_next (Windowed d) s e = Windows (capped (count_of s + 1)) (Some (kept_or_now (started_of s) e.now))
leaf_next (Linear delay) s e = Counted (capped (count_of s + 1))
leaf_next (Exponential base factor) s e = Product (capped (output_next s * factor))
leaf_next (ExponentialMilli base thousandths) s e = Scaled (capped (output_next s * thousandths / 1000))
leaf_next (Fibonacci delay) s e = Summands (output_after s) (capped (output_next s + output_after s))
leaf_next (Decorrelated lane base thousandths most) s e =
    Waited (next_decorrelated lane base thousandths most (output_before s) e)
leaf_next Elapsed s e = Started (Some (kept_or_now (started_of s) e.now))
leaf_next Identity s e = Blank
leaf_next (Unfold seed factor more) s e = Unfolded (capped (factor * output_next s + more))
leaf_next (Lone delay) s e = Spent true

-- the multiple of the delay that `linear` has come to
abbrev pub next_linear : ℕ → ℕ → ℕ
next_linear delay count = capped (delay * capped (count + 1))

-- what a leaf puts out at one more event
abbrev pub leaf_gives : Leaf → LeafState → Event → Datum
leaf_gives (Linear delay) s e = num (next_linear delay (count_of s))
leaf_gives (Exponential base factor) s e = num (output_next s)
leaf_gives (ExponentialMilli base thousandths) s e = num (output_next s)
leaf_gives (Fibonacci delay) s e = num (output_next s)
leaf_gives (Decorrelated lane base thousandths most) s e =
    num (next_decorrelated lane base thousandths most (output_before s) e)
leaf_gives Elapsed s e = num (e.now - kept_or_now (started_of s) e.now)
leaf_gives Identity s e = e.input
leaf_gives (Unfold seed factor more) s e = num (output_next s)
leaf_gives (Lone delay) s e = num (if lone_is_past s then 0 else delay)
leaf_gives l s e = num (count_of s)

-- what a leaf decides at one more event
abbrev pub leaf_decides : Leaf → LeafState → Event → Decision
leaf_decides Forever s e = Go e.now
leaf_decides (Recurs count) s e = if nat_lt (count_of s) count then Go e.now else Done
leaf_decides (Spaced delay) s e = Go (capped (e.now + delay))
leaf_decides (Fixed d) s e = Go (next_fixed d (planned_of s) e.now)
leaf_decides (Windowed d) s e = Go (next_boundary d (kept_or_now (started_of s) e.now) e.now)
leaf_decides (Linear delay) s e = Go (capped (e.now + next_linear delay (count_of s)))
leaf_decides (Exponential base factor) s e = Go (capped (e.now + output_next s))
leaf_decides (ExponentialMilli base thousandths) s e = Go (capped (e.now + output_next s))
leaf_decides (Fibonacci delay) s e = Go (capped (e.now + output_next s))
leaf_decides (Decorrelated lane base thousandths most) s e =
    Go (capped (e.now + next_decorrelated lane base thousandths most (output_before s) e))
leaf_decides Elapsed s e = Go e.now
leaf_decides Identity s e = Go e.now
leaf_decides (Unfold seed factor more) s e = Go e.now
leaf_decides (Lone delay) s e = if lone_is_past s then Done else Go (capped (e.now + delay))

-- what a leaf answers to one more event
abbrev pub leaf_answers : Leaf → LeafState → Event → Answer
leaf_answers l s e = answered (leaf_gives l s e) (leaf_decides l s e)

-- Nodes over one schedule.

-- the moment that a node keeps, if it keeps one
abbrev pub since_of : Kept → Option ℕ
since_of (since m) = m
since_of (round_since m) = m
since_of (last_at m) = m
since_of s = None

-- the number that a fold has come to, if the node keeps one
abbrev pub total_of : Kept → ℕ
total_of (total n) = n
total_of s = 0

-- the outputs so far, if the node keeps them
abbrev pub listed_of : Kept → List Datum
listed_of (listed ds) = ds
listed_of s = []

-- whether so much time has passed since the moment, if there is one
abbrev pub is_over : ℕ → Option ℕ → ℕ → Bool
is_over d None now = false
is_over d (Some m) now = nat_le d (now - m)

-- whether the schedule under the node begins anew at an event at `now`
abbrev pub begins : One → Kept → ℕ → Bool
begins (Renew d) s now = is_over d (since_of s) now
begins (RenewIdle d) s now = is_over d (since_of s) now
begins k s now = false

-- what a fold makes of its number and of one more answer; a list is no number
abbrev pub fold_total : Fold → ℕ → Answer → ℕ
fold_total Sum n a = if goes_on a.decision then capped (n + number_of a.output) else n
fold_total Count n a = if goes_on a.decision then capped (n + 1) else n
fold_total Max n a = if goes_on a.decision then max n (number_of a.output) else n
fold_total Listing n a = n

-- what a fold keeps after one more event, to which the schedule under it gave this answer
abbrev pub fold_next : Fold → Kept → Answer → Kept
fold_next Sum s a = total (fold_total Sum (total_of s) a)
fold_next Count s a = total (fold_total Count (total_of s) a)
fold_next Max s a = total (fold_total Max (total_of s) a)
fold_next Listing s a = listed (if goes_on a.decision then listed_of s ++ a.output ∷ [] else listed_of s)

-- the moment at which the present round began, if this event may begin one
abbrev pub round_next : Bool → Option ℕ → ℕ → ℕ
round_next anew m now = if anew then now else kept_or_now m now

-- what the node keeps after one more event, to which the schedule under it gave this answer
abbrev pub one_next : One → Kept → Event → Answer → Kept
one_next (Gather fold) s e a = fold_next fold s a
one_next (Within d) s e a = since (Some (kept_or_now (since_of s) e.now))
one_next (EndsBy d) s e a = since (Some (kept_or_now (since_of s) e.now))
one_next (Renew d) s e a = round_since (Some (round_next (is_over d (since_of s) e.now) (since_of s) e.now))
one_next (RenewIdle d) s e a = last_at (Some e.now)
one_next k s e a = none_kept

-- what a fold shows of what it keeps
abbrev pub fold_shows : Fold → Kept → Datum
fold_shows Listing s = list (items_of (listed_of s))
fold_shows fold s = num (total_of s)

-- what the node answers to one more event, to which the schedule under it gave this answer
abbrev pub one_answers : One → Kept → Event → Answer → Answer
one_answers (Gate side want test bound) s e a = gated side want test bound e.input a
one_answers (Gather fold) s e a = giving (fold_shows fold s) a
one_answers (Add d) s e a = delayed (added d) e.now a
one_answers (Set d) s e a = delayed (λ _. d) e.now a
one_answers (Cap d) s e a = delayed (λ delay. min delay d) e.now a
one_answers AddOut s e a = delayed (added_out a.output) e.now a
one_answers (Jitter lane least most) s e a = delayed (jittered least most (get_or e.words lane 0)) e.now a
one_answers (Within d) s e a = ended_where (nat_le d (e.now - kept_or_now (since_of s) e.now)) a
one_answers (EndsBy d) s e a = ended_where (goes_past (capped (kept_or_now (since_of s) e.now + d)) a.decision) a
one_answers (Renew d) s e a = a
one_answers (RenewIdle d) s e a = a
one_answers First s e a = giving (first_part a.output) a
one_answers Second s e a = giving (second_part a.output) a
one_answers Nothing s e a = silent a

-- the node's step over that of the schedule under it, whose progress before the first event is `start`
abbrev pub one_step : One → Progress → (Progress → Event → Progress × Answer) →
    Kept → Progress → Event → Progress × Answer
one_step k start step s p e =
    let r = step (if begins k s e.now then start else p) e in
    (at_one (one_next k s e r.1) r.0, one_answers k s e r.1)

-- Nodes over two schedules.

-- two schedules that were stepped side by side
abbrev pub side_by_side : Progress × Answer → Progress × Answer → Answer → Progress × Answer
side_by_side a b given = (at_two Together a.0 b.0, given)

-- the second is stepped, and the first stays as it is
abbrev pub past_crossing : Progress → Progress × Answer → Progress × Answer
past_crossing first b = (at_two Crossed first b.0, b.1)

-- the first was stepped: where it is done, the second answers the same event
abbrev pub at_crossing : Progress × Answer → Progress → Progress × Answer → Progress × Answer
at_crossing a second b =
    if is_done a.1.decision then past_crossing a.0 b else (at_two Uncrossed a.0 second, a.1)

-- one of two schedules in turn is stepped, and both at the crossing
abbrev pub follow_step : (Progress → Event → Progress × Answer) → (Progress → Event → Progress × Answer) →
    Turn → Progress → Progress → Event → Progress × Answer
follow_step front rest Together p q e = at_crossing (front p e) q (rest q e)
follow_step front rest Uncrossed p q e = at_crossing (front p e) q (rest q e)
follow_step front rest Crossed p q e = past_crossing p (rest q e)

-- the node's step over those of both schedules
abbrev pub two_step : Two → (Progress → Event → Progress × Answer) → (Progress → Event → Progress × Answer) →
    Turn → Progress → Progress → Event → Progress × Answer
two_step Meet front rest t p q e =
    let a = front p e in let b = rest q e in side_by_side a b (meet_answer a.1 b.1)
two_step Join front rest t p q e =
    let a = front p e in let b = rest q e in side_by_side a b (join_answer a.1 b.1)
two_step Feed front rest t p q e =
    let a = front p e in let b = rest q (with_input a.1.output e) in side_by_side a b (feed_answer a.1 b.1)
two_step Follow front rest t p q e = follow_step front rest t p q e

-- The parts of progress, of whichever shape it is.

abbrev pub leaf_of : Progress → LeafState
leaf_of (at_leaf s) = s
leaf_of (at_one k p) = Counted 0
leaf_of (at_two t p q) = Counted 0

-- what the node keeps
abbrev pub kept_in : Progress → Kept
kept_in (at_leaf s) = none_kept
kept_in (at_one k p) = k
kept_in (at_two t p q) = none_kept

-- whose turn it is
abbrev pub turn_in : Progress → Turn
turn_in (at_leaf s) = Together
turn_in (at_one k p) = Together
turn_in (at_two t p q) = t

-- how far the only or the first of two schedules has come
abbrev pub first_of : Progress → Progress
first_of (at_leaf s) = at_leaf s
first_of (at_one k p) = p
first_of (at_two t p q) = p

-- how far the second of two schedules has come
abbrev pub second_of : Progress → Progress
second_of (at_leaf s) = at_leaf s
second_of (at_one k p) = p
second_of (at_two t p q) = q

-- the progress after one more event, and the answer to it
abbrev pub step_of : Schedule → Progress → Event → Progress × Answer
step_of (leaf l) p e = (at_leaf (leaf_next l (leaf_of p) e), leaf_answers l (leaf_of p) e)
step_of (one k a) p e = one_step k (state_of a []) (step_of a) (kept_in p) (first_of p) e
step_of (two k a b) p e = two_step k (step_of a) (step_of b) (turn_in p) (first_of p) (second_of p) e

-- A step may begin anew, from before the first event, whatever the progress is.

-- the leaf's state that a step is made from
abbrev pub leaf_origin : Bool → Leaf → LeafState → LeafState
leaf_origin fresh l s = if fresh then leaf_state l [] else s

-- what the node keeps where a step is made
abbrev pub kept_origin : Bool → One → Kept → Kept
kept_origin fresh k s = if fresh then first_kept k else s

-- whose turn it is where a step is made
abbrev pub turn_origin : Bool → Two → Turn → Turn
turn_origin fresh k t = if fresh then first_turn k else t

-- the progress that a step is made from
abbrev pub origin : Bool → Schedule → Progress → Progress
origin fresh s p = if fresh then state_of s [] else p

-- the progress after one more event, and the answer to it, are these; a fresh step begins anew
abbrev pub Steps : Schedule → Bool → Event → Progress → Progress → Answer → Type 0
Steps s fresh e p next given = (next, given) ≡ step_of s (origin fresh s p) e
