-- What a schedule answers on a history, as a function of the whole list of events, oldest first.
use Rattle.std.specs.Prelude.{ℕ, ◌+◌, ◌-◌, ◌%◌, min, max, Bool, true, false, if◌then◌else◌, nat_eq, nat_lt, nat_le}
use Rattle.std.specs.Prelude.{List, [], ◌∷◌, drop, length, reverse, find, get_or, Option, Some, None}
use Rattle.sched_time.specs.Capped.{capped}
use Rattle.sched_time.specs.declared.starts.Decision.{Decision}
use Rattle.sched_time.specs.declared.starts.Decision.TheVariants.{Go, Done}
use Rattle.sched_plan.specs.Datum.{Datum, num, pair, list, items_of, first_part, second_part}
use Rattle.sched_plan.specs.Schedule.{Schedule, leaf, one, two}
use Rattle.sched_plan.specs.History.{first_moment, last_moment, last_input, last_words, words_in, repeats, prefixes}
use Rattle.sched_plan.specs.Sequences.{linear_at, exponential_at, milli_at, fibonacci_at, decorrelated_at, unfold_at}
use Rattle.sched_plan.specs.Outputs.{earlier_outputs, sum_in, count_in, greatest_in, fed}
use Rattle.sched_plan.specs.Rounds.{last_block, last_run}
use Rattle.sched_plan.specs.Delays.{added, added_out, jittered}
use Rattle.sched_plan.specs.Changes.{ended_where, goes_past, delayed, giving, silent}
use Rattle.sched_plan.specs.Gates.{gated}
use Rattle.sched_plan.specs.declared.leaves.Leaf.{Leaf}
use Rattle.sched_plan.specs.declared.leaves.Leaf.TheVariants.{Forever, Recurs, Spaced, Fixed, Windowed, Linear}
use Rattle.sched_plan.specs.declared.leaves.Leaf.TheVariants.{Exponential, ExponentialMilli, Fibonacci, Decorrelated}
use Rattle.sched_plan.specs.declared.leaves.Leaf.TheVariants.{Elapsed, Identity, Unfold, Lone}
use Rattle.sched_plan.specs.declared.nodes.Fold.{Fold}
use Rattle.sched_plan.specs.declared.nodes.Fold.TheVariants.{Sum, Count, Max, List as Listing}
use Rattle.sched_plan.specs.declared.nodes.One.{One}
use Rattle.sched_plan.specs.declared.nodes.One.TheVariants.{Gate, Gather, Add, Set, Cap, AddOut, Jitter, Within, EndsBy}
use Rattle.sched_plan.specs.declared.nodes.One.TheVariants.{Renew, RenewIdle, First, Second, Nothing}
use Rattle.sched_plan.specs.declared.nodes.Two.{Two}
use Rattle.sched_plan.specs.declared.nodes.Two.TheVariants.{Meet, Join, Follow, Feed}
use Rattle.sched_plan.specs.declared.history.Event.{Event}
use Rattle.sched_plan.specs.declared.history.Answer.{Answer}

-- whether the schedule stops here
abbrev pub is_done : Decision → Bool
is_done (Go start) = false
is_done Done = true

-- the first boundary of the intervals of d from f on that is after `now`
abbrev pub next_boundary : ℕ → ℕ → ℕ → ℕ
next_boundary d f now = capped (now + (d - (now - f) % d))

-- The start that `fixed d` plans at the last of the events, which stand newest first; f is the first moment.
-- At the first event that is f + d. At a later one let prev be the start planned at the event before: where now is past
-- prev + d the schedule is behind and goes on now, else at the next boundary.
abbrev pub fixed_plan : ℕ → ℕ → List Event → ℕ
fixed_plan d f [] = 0
fixed_plan d f (e ∷ []) = capped (f + d)
fixed_plan d f (e ∷ earlier) =
    if nat_lt (capped (fixed_plan d f earlier + d)) e.now then e.now else next_boundary d f e.now

-- the start that `fixed d` plans at the last event of the history
abbrev pub fixed_start : ℕ → List Event → ℕ
fixed_start d h = fixed_plan d (first_moment h) (reverse h)

-- The output of a recurrence of its own. Those that have no number of their own give how often they have recurred
-- before this event.
abbrev pub leaf_output : Leaf → List Event → Datum
leaf_output Forever h = num (repeats h)
leaf_output (Recurs count) h = num (repeats h)
leaf_output (Spaced delay) h = num (repeats h)
leaf_output (Fixed length) h = num (repeats h)
leaf_output (Windowed length) h = num (repeats h)
leaf_output (Linear delay) h = num (linear_at delay (length h))
leaf_output (Exponential base factor) h = num (exponential_at base factor (length h))
leaf_output (ExponentialMilli base thousandths) h = num (milli_at base thousandths (length h))
leaf_output (Fibonacci delay) h = num (fibonacci_at delay (length h))
leaf_output (Decorrelated lane base thousandths most) h =
    num (decorrelated_at base thousandths most (words_in lane h))
leaf_output Elapsed h = num (last_moment h - first_moment h)
leaf_output Identity h = last_input h
leaf_output (Unfold seed factor more) h = num (unfold_at seed factor more (length h))
leaf_output (Lone delay) h = num (if nat_eq (length h) 1 then delay else 0)

-- goes on so much after the last event
abbrev pub go_after : ℕ → List Event → Decision
go_after delay h = Go (capped (last_moment h + delay))

-- what it decides at the last event
abbrev pub leaf_decision : Leaf → List Event → Decision
leaf_decision Forever h = Go (last_moment h)
leaf_decision (Recurs count) h = if nat_lt (length h - 1) count then Go (last_moment h) else Done
leaf_decision (Spaced delay) h = go_after delay h
leaf_decision (Fixed d) h = Go (fixed_start d h)
leaf_decision (Windowed d) h = Go (next_boundary d (first_moment h) (last_moment h))
leaf_decision (Linear delay) h = go_after (linear_at delay (length h)) h
leaf_decision (Exponential base factor) h = go_after (exponential_at base factor (length h)) h
leaf_decision (ExponentialMilli base thousandths) h = go_after (milli_at base thousandths (length h)) h
leaf_decision (Fibonacci delay) h = go_after (fibonacci_at delay (length h)) h
leaf_decision (Decorrelated lane base thousandths most) h =
    go_after (decorrelated_at base thousandths most (words_in lane h)) h
leaf_decision Elapsed h = Go (last_moment h)
leaf_decision Identity h = Go (last_moment h)
leaf_decision (Unfold seed factor more) h = Go (last_moment h)
leaf_decision (Lone delay) h = if nat_eq (length h) 1 then go_after delay h else Done

-- what it answers
abbrev pub leaf_answer : Leaf → List Event → Answer
leaf_answer l h = record { output = leaf_output l h; decision = leaf_decision l h }

-- the intervals of both: going on at the later start where both go on, else done
abbrev pub meet_decisions : Decision → Decision → Decision
meet_decisions (Go s) (Go t) = Go (max s t)
meet_decisions (Go s) Done = Done
meet_decisions Done d = Done

-- the intervals of either: going on at the earlier start where both go on, and where one does at its start
abbrev pub join_decisions : Decision → Decision → Decision
join_decisions (Go s) (Go t) = Go (min s t)
join_decisions (Go s) Done = Go s
join_decisions Done d = d

-- two schedules side by side, as ZIO's `&&`: the pair of outputs, while both go on
abbrev pub meet_answer : Answer → Answer → Answer
meet_answer a b = record { output = pair a.output b.output; decision = meet_decisions a.decision b.decision }

-- two schedules side by side, as ZIO's `||`: the pair of outputs, while one goes on
abbrev pub join_answer : Answer → Answer → Answer
join_answer a b = record { output = pair a.output b.output; decision = join_decisions a.decision b.decision }

-- the shortest prefix of the history on which a schedule with these answers is done, if there is one
abbrev pub crossing : (List Event → Answer) → List Event → Option (List Event)
crossing answers h = find (λ p. is_done (answers p).decision) (prefixes h)

-- the events from the last one of this prefix on
abbrev pub from_end_of : List Event → List Event → List Event
from_end_of p h = drop (length p - 1) h

-- one schedule after another, as ZIO's `andThen`: the first one's answer while it was never done, else the second one's
-- on the events from the one on at which the first was done
abbrev pub follow_answer : (List Event → Answer) → (List Event → Answer) → Option (List Event) → List Event → Answer
follow_answer front rest None h = front h
follow_answer front rest (Some p) h = rest (from_end_of p h)

-- the second schedule, as ZIO's `>>>`, while both go on
abbrev pub feed_answer : Answer → Answer → Answer
feed_answer a b = record { output = b.output; decision = meet_decisions a.decision b.decision }

-- what is made of outputs
abbrev pub gathered : Fold → List Datum → Datum
gathered Sum ds = num (sum_in ds)
gathered Count ds = num (count_in ds)
gathered Max ds = num (greatest_in ds)
gathered Listing ds = list (items_of ds)

-- what a node over one schedule answers, where the schedule has these answers
abbrev pub changed : One → (List Event → Answer) → List Event → Answer
changed (Gate side want test bound) f h = gated side want test bound (last_input h) (f h)
changed (Gather fold) f h = giving (gathered fold (earlier_outputs f h)) (f h)
changed (Add d) f h = delayed (added d) (last_moment h) (f h)
changed (Set d) f h = delayed (λ _. d) (last_moment h) (f h)
changed (Cap d) f h = delayed (λ delay. min delay d) (last_moment h) (f h)
changed AddOut f h = delayed (added_out (f h).output) (last_moment h) (f h)
changed (Jitter lane least most) f h =
    delayed (jittered least most (get_or (last_words h) lane 0)) (last_moment h) (f h)
changed (Within d) f h = ended_where (nat_le d (last_moment h - first_moment h)) (f h)
changed (EndsBy d) f h = ended_where (goes_past (capped (first_moment h + d)) (f h).decision) (f h)
changed (Renew d) f h = f (last_block d h)
changed (RenewIdle d) f h = f (last_run d h)
changed First f h = giving (first_part (f h).output) (f h)
changed Second f h = giving (second_part (f h).output) (f h)
changed Nothing f h = silent (f h)

-- what a node over two schedules answers, where the schedules have these answers
abbrev pub combined : Two → (List Event → Answer) → (List Event → Answer) → List Event → Answer
combined Meet f g h = meet_answer (f h) (g h)
combined Join f g h = join_answer (f h) (g h)
combined Follow f g h = follow_answer f g (crossing f h) h
combined Feed f g h = feed_answer (f h) (g (fed f h))

-- what the schedule answers at the last event of the history
abbrev pub answer : Schedule → List Event → Answer
answer (leaf l) h = leaf_answer l h
answer (one k a) h = changed k (answer a) h
answer (two k a b) h = combined k (answer a) (answer b) h
