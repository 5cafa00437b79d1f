-- No step starts before its event, from whatever progress it is made.
use Rattle.std.proofs.Common.{ℕ, ◌+◌, ◌≤◌, if◌then◌else◌, Option, Some, None, nat_lt, nat_le, ◌-◌, le_refl, min, get_or}
use Rattle.std.proofs.Common.{arith, []}
use Rattle.std.proofs.lemmas.Bool.{cond_both}
use Rattle.sched_time.specs.Capped.{capped}
use Rattle.sched_time.specs.declared.numbers.TheConstants.{FAR}
use Rattle.sched_time.specs.declared.starts.Decision.TheVariants.{Go, Done}
use Rattle.sched_plan.specs.Schedule.{Schedule, leaf, one, two}
use Rattle.sched_plan.specs.Datum.{Datum}
use Rattle.sched_plan.specs.Outputs.{with_input}
use Rattle.sched_plan.specs.Gates.{passes, tested, is_wanted}
use Rattle.sched_plan.specs.Delays.{added, added_out, jittered}
use Rattle.sched_plan.specs.Changes.{goes_past}
use Rattle.sched_plan.specs.Answer.{is_done, next_boundary}
use Rattle.sched_plan.specs.Starts.{StartsBy}
use Rattle.sched_plan.proofs.Starts.{moved_starts, meet_starts, join_starts, ended_starts, passed_starts}
use Rattle.sched_plan.specs.declared.leaves.Leaf.{Leaf}
use Rattle.sched_plan.specs.declared.leaves.Leaf.TheVariants.{Forever, Recurs, Spaced, Fixed, Windowed, Linear}
use Rattle.sched_plan.specs.declared.leaves.Leaf.TheVariants.{Exponential, ExponentialMilli, Fibonacci, Decorrelated}
use Rattle.sched_plan.specs.declared.leaves.Leaf.TheVariants.{Elapsed, Identity, Unfold, Lone}
use Rattle.sched_plan.specs.declared.nodes.One.{One}
use Rattle.sched_plan.specs.declared.nodes.One.TheVariants.{Gate, Add, Set, Cap, AddOut, Jitter, Within, EndsBy}
use Rattle.sched_plan.specs.declared.nodes.Two.{Two}
use Rattle.sched_plan.specs.declared.nodes.Two.TheVariants.{Meet, Join, Follow, Feed}
use Rattle.sched_plan.specs.declared.history.Event.{Event}
use Rattle.sched_plan.specs.declared.history.Answer.{Answer}
use Rattle.sched_step.specs.declared.leaves.LeafState.{LeafState}
use Rattle.sched_step.specs.declared.turns.Turn.{Turn}
use Rattle.sched_step.specs.declared.turns.Turn.TheVariants.{Together, Uncrossed, Crossed}
use Rattle.sched_step.specs.Progress.{Kept, Progress, at_two}
use Rattle.sched_step.specs.StateOf.{state_of}
use Rattle.sched_step.specs.Step.{count_of, planned_of, lone_is_past, next_fixed, leaf_decides, leaf_of, kept_or_now}
use Rattle.sched_step.specs.Step.{since_of, begins, one_answers, past_crossing, at_crossing, follow_step, two_step}
use Rattle.sched_step.specs.Step.{kept_in, turn_in, first_of, second_of, step_of}

next_fixed_starts : (d : ℕ) (planned : Option (ℕ × ℕ)) (now : ℕ) → now ≤ FAR → now ≤ next_fixed d planned now
next_fixed_starts d None now far = omega arith
next_fixed_starts d (Some p) now far =
    cond_both (nat_lt (capped (p.1 + d)) now) now (next_boundary d p.0 now) (λ start. now ≤ start)
    (λ behind. le_refl now) (λ ahead. omega arith)

leaf_starts : (l : Leaf) (s : LeafState) (e : Event) → e.now ≤ FAR → StartsBy e.now (leaf_decides l s e)
leaf_starts Forever s e far = le_refl e.now
leaf_starts (Recurs count) s e far =
    cond_both (nat_lt (count_of s) count) (Go e.now) Done (StartsBy e.now) (λ below. le_refl e.now) (λ above. tt)
leaf_starts (Spaced delay) s e far = omega arith
leaf_starts (Fixed d) s e far = next_fixed_starts d (planned_of s) e.now far
leaf_starts (Windowed d) s e far = omega arith
leaf_starts (Linear delay) s e far = omega arith
leaf_starts (Exponential base factor) s e far = omega arith
leaf_starts (ExponentialMilli base thousandths) s e far = omega arith
leaf_starts (Fibonacci delay) s e far = omega arith
leaf_starts (Decorrelated lane base thousandths most) s e far = omega arith
leaf_starts Elapsed s e far = le_refl e.now
leaf_starts Identity s e far = le_refl e.now
leaf_starts (Unfold seed factor more) s e far = le_refl e.now
leaf_starts (Lone delay) s e far =
    cond_both (lone_is_past s) Done (Go (capped (e.now + delay))) (StartsBy e.now) (λ spent. tt) (λ first. omega arith)

-- Nodes over one schedule.

one_starts : (k : One) (s : Kept) (e : Event) (a : Answer) → e.now ≤ FAR → StartsBy e.now a.decision →
    StartsBy e.now (one_answers k s e a).decision
one_starts (Within d) s e a far starts = ended_starts e.now (nat_le d (e.now - kept_or_now (since_of s) e.now)) a starts
one_starts (EndsBy d) s e a far starts =
    ended_starts e.now (goes_past (capped (kept_or_now (since_of s) e.now + d)) a.decision) a starts
one_starts (Gate side want test bound) s e a far starts =
    passed_starts e.now (is_wanted want (passes test bound (tested side e.input a))) a starts
one_starts (Add d) s e a far starts = moved_starts (added d) e.now a.decision far
one_starts (Set d) s e a far starts = moved_starts (λ _. d) e.now a.decision far
one_starts (Cap d) s e a far starts = moved_starts (λ delay. min delay d) e.now a.decision far
one_starts AddOut s e a far starts = moved_starts (added_out a.output) e.now a.decision far
one_starts (Jitter lane least most) s e a far starts =
    moved_starts (jittered least most (get_or e.words lane 0)) e.now a.decision far
one_starts k s e a far starts = starts

-- Nodes over two schedules.

module _
    (front rest : Progress → Event → Progress × Answer) (e : Event)
    (front_starts : (p : Progress) → StartsBy e.now (front p e).1.decision)
    (rest_starts : (p : Progress) (input : Datum) → StartsBy e.now (rest p (with_input input e)).1.decision) where
  at_crossing_starts : (p q : Progress) → StartsBy e.now (at_crossing (front p e) q (rest q e)).1.decision
  at_crossing_starts p q =
      cond_both (is_done (front p e).1.decision) (past_crossing (front p e).0 (rest q e))
      (at_two Uncrossed (front p e).0 q, (front p e).1) (λ (r : Progress × Answer). StartsBy e.now r.1.decision)
      (λ done. rest_starts q e.input) (λ goes_on. front_starts p)

  follow_starts : (t : Turn) (p q : Progress) → StartsBy e.now (follow_step front rest t p q e).1.decision
  follow_starts Together p q = at_crossing_starts p q
  follow_starts Uncrossed p q = at_crossing_starts p q
  follow_starts Crossed p q = rest_starts q e.input

  two_starts : (k : Two) (t : Turn) (p q : Progress) → StartsBy e.now (two_step k front rest t p q e).1.decision
  two_starts Meet t p q = meet_starts e.now _ _ (front_starts p) (rest_starts q e.input)
  two_starts Join t p q = join_starts e.now _ _ (front_starts p) (rest_starts q e.input)
  two_starts Feed t p q = meet_starts e.now _ _ (front_starts p) (rest_starts q (front p e).1.output)
  two_starts Follow t p q = follow_starts t p q

pub starts_law : (s : Schedule) (p : Progress) (e : Event) → e.now ≤ FAR → StartsBy e.now (step_of s p e).1.decision
starts_law (leaf l) p e far = leaf_starts l (leaf_of p) e far
starts_law (one k a) p e far =
    let from : Progress = if begins k (kept_in p) e.now then state_of a [] else first_of p in
    one_starts k (kept_in p) e (step_of a from e).1 far (starts_law a from e far)
starts_law (two k a b) p e far =
    two_starts (step_of a) (step_of b) e (λ q. starts_law a q e far)
    (λ q input. starts_law b q (with_input input e) far)
    k (turn_in p) (first_of p) (second_of p)
