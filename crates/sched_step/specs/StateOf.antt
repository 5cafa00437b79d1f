-- The state of a schedule after a history, as a function of the whole list of events, oldest first.
use Rattle.std.specs.Prelude.{◌≡◌, ℕ, ◌+◌, nat_lt, List, [], ◌∷◌, length, Option, Some, None}
use Rattle.sched_time.specs.Capped.{capped}
use Rattle.sched_time.specs.declared.numbers.Tick.{Tick}
use Rattle.sched_plan.specs.Datum.{Datum}
use Rattle.sched_plan.specs.Schedule.{Schedule, leaf, one, two}
use Rattle.sched_plan.specs.History.{last_moment, words_in}
use Rattle.sched_plan.specs.Sequences.{exponential_at, milli_at, fibonacci_at, decorrelated_at, unfold_at}
use Rattle.sched_plan.specs.Outputs.{outputs, sum_in, count_in, greatest_in, fed}
use Rattle.sched_plan.specs.Rounds.{last_block, last_run}
use Rattle.sched_plan.specs.Answer.{answer, leaf_answer, crossing, from_end_of, fixed_start}
use Rattle.sched_plan.specs.declared.leaves.Leaf.{Leaf}
use Rattle.sched_plan.specs.declared.leaves.Leaf.TheVariants.{Forever, Recurs, Spaced, Fixed, Windowed, Linear}
use Rattle.sched_plan.specs.declared.leaves.Leaf.TheVariants.{Exponential, ExponentialMilli, Fibonacci, Decorrelated}
use Rattle.sched_plan.specs.declared.leaves.Leaf.TheVariants.{Elapsed, Identity, Unfold, Lone}
use Rattle.sched_plan.specs.declared.nodes.Fold.{Fold}
use Rattle.sched_plan.specs.declared.nodes.Fold.TheVariants.{Sum, Count, Max, List as Listing}
use Rattle.sched_plan.specs.declared.nodes.One.{One}
use Rattle.sched_plan.specs.declared.nodes.One.TheVariants.{Gather, Within, EndsBy, Renew, RenewIdle}
use Rattle.sched_plan.specs.declared.nodes.Two.{Two}
use Rattle.sched_plan.specs.declared.nodes.Two.TheVariants.{Meet, Join, Follow, Feed}
use Rattle.sched_plan.specs.declared.history.Event.{Event}
use Rattle.sched_plan.specs.declared.history.Answer.{Answer}
use Rattle.sched_step.specs.declared.leaves.LeafState.{LeafState}
use Rattle.sched_step.specs.declared.leaves.LeafState.TheVariants.{Counted, Planned, Windows, Product, Scaled, Summands}
use Rattle.sched_step.specs.declared.leaves.LeafState.TheVariants.{Waited, Started, Blank, Unfolded, Spent}
use Rattle.sched_step.specs.declared.turns.Turn.{Turn}
use Rattle.sched_step.specs.declared.turns.Turn.TheVariants.{Together, Uncrossed, Crossed}
use Rattle.sched_step.specs.Progress.{Kept, none_kept, since, round_since, last_at, total, listed, Progress, at_leaf}
use Rattle.sched_step.specs.Progress.{at_one, at_two}

-- the moment of the first event, if there was one
abbrev pub began_at : List Event → Option ℕ
began_at [] = None
began_at (e ∷ h) = Some e.now

-- the moment of the last event, if there was one
abbrev pub ended_at : List Event → Option ℕ
ended_at [] = None
ended_at (e ∷ h) = Some (last_moment (e ∷ h))

-- the first moment and the start planned last; none before the first event
abbrev pub first_and_start : ℕ → List Event → Option (ℕ × ℕ)
first_and_start d [] = None
first_and_start d (e ∷ h) = Some (e.now, fixed_start d (e ∷ h))

-- what the leaf keeps of the events: their number, moments, the output of the last one, or that which the next one has
abbrev pub leaf_state : Leaf → List Event → LeafState
leaf_state Forever h = Counted (capped (length h))
leaf_state (Recurs count) h = Counted (capped (length h))
leaf_state (Spaced delay) h = Counted (capped (length h))
leaf_state (Fixed d) h = Planned (capped (length h)) (first_and_start d h)
leaf_state (Windowed d) h = Windows (capped (length h)) (began_at h)
leaf_state (Linear delay) h = Counted (capped (length h))
leaf_state (Exponential base factor) h = Product (exponential_at base factor (length h + 1))
leaf_state (ExponentialMilli base thousandths) h = Scaled (milli_at base thousandths (length h + 1))
leaf_state (Fibonacci delay) h = Summands (fibonacci_at delay (length h + 1)) (fibonacci_at delay (length h + 2))
leaf_state (Decorrelated lane base thousandths most) h =
    Waited (decorrelated_at base thousandths most (words_in lane h))
leaf_state Elapsed h = Started (began_at h)
leaf_state Identity h = Blank
leaf_state (Unfold seed factor more) h = Unfolded (unfold_at seed factor more (length h + 1))
leaf_state (Lone delay) h = Spent (nat_lt 0 (length h))

-- what a fold has made of these outputs
abbrev pub folded : Fold → List Datum → Kept
folded Sum ds = total (sum_in ds)
folded Count ds = total (count_in ds)
folded Max ds = total (greatest_in ds)
folded Listing ds = listed ds

-- what a node over one schedule keeps, where the schedule has these answers
abbrev pub kept_of : One → (List Event → Answer) → List Event → Kept
kept_of (Gather fold) f h = folded fold (outputs f h)
kept_of (Within d) f h = since (began_at h)
kept_of (EndsBy d) f h = since (began_at h)
kept_of (Renew d) f h = round_since (began_at (last_block d h))
kept_of (RenewIdle d) f h = last_at (ended_at h)
kept_of k f h = none_kept

-- the events that the schedule under a node has been given
abbrev pub seen : One → List Event → List Event
seen (Renew d) h = last_block d h
seen (RenewIdle d) h = last_run d h
seen k h = h

-- of two schedules in turn it is the first one's until there is a crossing
abbrev pub turn_at : Option (List Event) → Turn
turn_at None = Uncrossed
turn_at (Some p) = Crossed

-- the first of two schedules in turn has all events before the crossing, and after it those up to and with the crossing
-- one
abbrev pub up_to_crossing : Option (List Event) → List Event → List Event
up_to_crossing None h = h
up_to_crossing (Some p) h = p

-- the second has those from the crossing one on
abbrev pub from_crossing : Option (List Event) → List Event → List Event
from_crossing None h = []
from_crossing (Some p) h = from_end_of p h

-- whose turn it is of two schedules, where the first has these answers
abbrev pub turn_of : Two → (List Event → Answer) → List Event → Turn
turn_of Meet f h = Together
turn_of Join f h = Together
turn_of Feed f h = Together
turn_of Follow f h = turn_at (crossing f h)

-- the events that the first of two schedules has been given
abbrev pub first_seen : Two → (List Event → Answer) → List Event → List Event
first_seen Follow f h = up_to_crossing (crossing f h) h
first_seen k f h = h

-- the events that the second of two schedules has been given; in a feed their inputs are the first one's outputs
abbrev pub second_seen : Two → (List Event → Answer) → List Event → List Event
second_seen Follow f h = from_crossing (crossing f h) h
second_seen Feed f h = fed f h
second_seen k f h = h

-- how far the schedule has come after the history
abbrev pub state_of : Schedule → List Event → Progress
state_of (leaf l) h = at_leaf (leaf_state l h)
state_of (one k a) h = at_one (kept_of k (answer a) h) (state_of a (seen k h))
state_of (two k a b) h =
    at_two (turn_of k (answer a) h) (state_of a (first_seen k (answer a) h)) (state_of b (second_seen k (answer a) h))

-- what a node keeps before the first event, whatever the schedule under it would answer
abbrev pub first_kept : One → Kept
first_kept k = kept_of k (leaf_answer Forever) []

-- whose turn it is before the first event
abbrev pub first_turn : Two → Turn
first_turn k = turn_of k (leaf_answer Forever) []

-- the event of this tick and input
abbrev pub event_of : Tick → Datum → Event
event_of tick input = record { now = tick.now; words = tick.words; input = input }

-- what a step of the schedule has to give where this is the history with the step's event
pub record IsStep (s : Schedule) (h : List Event) (state : Progress) (given : Answer) : Type 0 where
  pub state_is : state ≡ state_of s h
  pub answer_is : given ≡ answer s h
