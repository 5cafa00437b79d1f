-- No schedule goes on before the event that it answers.
use Rattle.std.proofs.Common.{◌≡◌, ℕ, zero, suc, ◌+◌, ◌-◌, ◌%◌, ◌≤◌, List, [], ◌∷◌, ◌++◌, length, drop, reverse, Bool}
use Rattle.std.proofs.Common.{true, false, cond, Option, Some, None, refl, sym, subst, ◌∙◌, arith}
use Rattle.std.specs.Prelude.{min, get_or, nat_eq, nat_lt, nat_le}
use Rattle.std.proofs.lemmas.Bool.{cond_both}
use Rattle.std.proofs.lemmas.List.{reverse-append}
use mathlib.Core.List.{reverse-cons}
use Rattle.sched_time.specs.Capped.{capped}
use Rattle.sched_time.specs.declared.numbers.TheConstants.{FAR}
use Rattle.sched_time.specs.declared.starts.Decision.{Decision}
use Rattle.sched_time.specs.declared.starts.Decision.TheVariants.{Go, Done}
use Rattle.sched_plan.specs.Schedule.{Schedule, leaf, one, two}
use Rattle.sched_plan.specs.History.{first_moment, last_moment, last_input, last_words}
use Rattle.sched_plan.specs.Rounds.{last_block, last_run}
use Rattle.sched_plan.proofs.HistoryLaws.{last_moment-push}
use Rattle.sched_plan.proofs.PrefixLaws.{crossing-short}
use Rattle.sched_plan.proofs.RoundLaws.{last_block-last_moment, last_run-last_moment}
use Rattle.sched_plan.specs.Outputs.{fed}
use Rattle.sched_plan.proofs.OutputLaws.{fed-last_moment}
use Rattle.sched_plan.specs.Delays.{added, added_out, jittered}
use Rattle.sched_plan.proofs.DelayLaws.{moved-later}
use Rattle.sched_plan.specs.Changes.{ended, ended_where, goes_past, moved_decision}
use Rattle.sched_plan.specs.Gates.{is_wanted, passes, tested}
use Rattle.sched_plan.specs.Answer.{answer, changed, combined, leaf_decision, fixed_plan, fixed_start, next_boundary}
use Rattle.sched_plan.specs.Answer.{meet_decisions, join_decisions, follow_answer, crossing, from_end_of}
use Rattle.sched_plan.specs.Starts.{StartsBy}
use Rattle.sched_plan.specs.Laws.{StartsAreNotBefore}
use Rattle.sched_plan.specs.declared.leaves.Leaf.{Leaf}
use Rattle.sched_plan.specs.declared.leaves.Leaf.TheVariants.{Forever, Recurs, Spaced, Fixed, Windowed, Linear}
use Rattle.sched_plan.specs.declared.leaves.Leaf.TheVariants.{Exponential, ExponentialMilli, Fibonacci, Decorrelated}
use Rattle.sched_plan.specs.declared.leaves.Leaf.TheVariants.{Elapsed, Identity, Unfold, Lone}
use Rattle.sched_plan.specs.declared.nodes.One.{One}
use Rattle.sched_plan.specs.declared.nodes.One.TheVariants.{Gate, Gather, Add, Set, Cap, AddOut, Jitter, Within, EndsBy}
use Rattle.sched_plan.specs.declared.nodes.One.TheVariants.{Renew, RenewIdle, First, Second, Nothing}
use Rattle.sched_plan.specs.declared.nodes.Two.{Two}
use Rattle.sched_plan.specs.declared.nodes.Two.TheVariants.{Meet, Join, Follow, Feed}
use Rattle.sched_plan.specs.declared.history.Event.{Event}
use Rattle.sched_plan.specs.declared.history.Answer.{Answer}

-- a schedule with these answers goes on at the last event of each history or later
abbrev Starts : (List Event → Answer) → Type 0
Starts f = (h : List Event) → last_moment h ≤ FAR → StartsBy (last_moment h) (f h).decision

-- what holds of the empty history and of each that ends with an event holds of all
by_last : (P : List Event → Type 0) → P [] → ((g : List Event) (e : Event) → P (g ++ e ∷ [])) → (h : List Event) → P h
by_last P none some [] = none
by_last P none some (c ∷ h) = by_last (λ g. P (c ∷ g)) (some [] c) (λ g e. some (c ∷ g) e) h

pub moved_starts : (delay : ℕ → ℕ) (now : ℕ) (d : Decision) → now ≤ FAR → StartsBy now (moved_decision delay now d)
moved_starts delay now (Go start) far = moved-later delay now start far
moved_starts delay now Done far = tt

pub meet_starts : (now : ℕ) (d c : Decision) → StartsBy now d → StartsBy now c → StartsBy now (meet_decisions d c)
meet_starts now (Go s) (Go t) p q = omega (arith, p, q)
meet_starts now (Go s) Done p q = tt
meet_starts now Done c p q = tt

pub join_starts : (now : ℕ) (d c : Decision) → StartsBy now d → StartsBy now c → StartsBy now (join_decisions d c)
join_starts now (Go s) (Go t) p q = omega (arith, p, q)
join_starts now (Go s) Done p q = p
join_starts now Done c p q = q

not_before : (now delay : ℕ) → now ≤ FAR → now ≤ capped (now + delay)
not_before now delay far = omega arith

-- the start that `fixed` plans at an event after another
fixed_later : (d f : ℕ) (e : Event) (events : List Event) (c : Event) (rest : List Event) → events ≡ rest ++ c ∷ []
    → e.now ≤ FAR →
    e.now ≤ fixed_plan d f (e ∷ events)
fixed_later d f e [] c [] h far = cc
fixed_later d f e [] c (b ∷ rest) h far = cc
fixed_later d f e (b ∷ events) c rest h far =
    cond_both (nat_lt (capped (fixed_plan d f (b ∷ events) + d)) e.now) e.now (next_boundary d f e.now)
    (λ start. e.now ≤ start)
    (λ behind. omega arith) (λ on_time. not_before e.now (d - (e.now - f) % d) far)

fixed_starts : (d : ℕ) (g : List Event) (e : Event) → e.now ≤ FAR → e.now ≤ fixed_start d (g ++ e ∷ [])
fixed_starts d [] e far = not_before e.now d far
fixed_starts d (c ∷ g) e far =
    subst (λ events. e.now ≤ fixed_plan d c.now events) (sym (reverse-append (c ∷ g) (e ∷ [])))
    (fixed_later d c.now e (reverse (c ∷ g)) c (reverse g) (reverse-cons c g) far)

fixed_law : (d : ℕ) (h : List Event) → last_moment h ≤ FAR → last_moment h ≤ fixed_start d h
fixed_law d h =
    by_last (λ h. last_moment h ≤ FAR → last_moment h ≤ fixed_start d h) (λ far. omega arith)
    (λ g e far.
    let last = last_moment-push g e in
    subst (λ now. now ≤ fixed_start d (g ++ e ∷ [])) (sym last)
    (fixed_starts d g e (subst (λ now. now ≤ FAR) last far)))
    h

leaf_law : (l : Leaf) (h : List Event) → last_moment h ≤ FAR → StartsBy (last_moment h) (leaf_decision l h)
leaf_law Forever h far = omega arith
leaf_law (Recurs count) h far =
    cond_both (nat_lt (length h - 1) count) (Go (last_moment h)) Done (StartsBy (last_moment h))
    (λ _. omega arith) (λ _. tt)
leaf_law (Spaced delay) h far = not_before _ _ far
leaf_law (Fixed d) h far = fixed_law d h far
leaf_law (Windowed d) h far = not_before _ _ far
leaf_law (Linear delay) h far = not_before _ _ far
leaf_law (Exponential base factor) h far = not_before _ _ far
leaf_law (ExponentialMilli base thousandths) h far = not_before _ _ far
leaf_law (Fibonacci delay) h far = not_before _ _ far
leaf_law (Decorrelated lane base thousandths most) h far = not_before _ _ far
leaf_law Elapsed h far = omega arith
leaf_law Identity h far = omega arith
leaf_law (Unfold seed factor more) h far = omega arith
leaf_law (Lone delay) h far =
    cond_both (nat_eq (length h) 1) (Go (capped (last_moment h + delay))) Done (StartsBy (last_moment h))
    (λ _. not_before _ _ far) (λ _. tt)

-- the last round of a history ends with its last event
last_block_ends : (d : ℕ) (h : List Event) → last_moment (last_block d h) ≡ last_moment h
last_block_ends d h =
    by_last (λ h. last_moment (last_block d h) ≡ last_moment h) refl
    (λ g e. last_block-last_moment d g e ∙ sym (last_moment-push g e)) h

last_run_ends : (d : ℕ) (h : List Event) → last_moment (last_run d h) ≡ last_moment h
last_run_ends d h =
    by_last (λ h. last_moment (last_run d h) ≡ last_moment h) refl
    (λ g e. last_run-last_moment d g e ∙ sym (last_moment-push g e)) h

-- so do its suffixes
last_moment-drop : (k : ℕ) (h : List Event) → k ≤ length h - 1 → last_moment (drop k h) ≡ last_moment h
last_moment-drop zero h short = refl
last_moment-drop (suc k) [] short = refl
last_moment-drop (suc k) (e ∷ []) short = absurd (omega (arith, short))
last_moment-drop (suc k) (e ∷ d ∷ h) short = last_moment-drop k (d ∷ h) (omega (arith, short))

-- a node that answers as its schedule does on another history with the same end
same_end : (f : List Event → Answer) → Starts f → (g h : List Event) → last_moment g ≡ last_moment h
    → last_moment h ≤ FAR →
    StartsBy (last_moment h) (f g).decision
same_end f law g h same far =
    subst (λ now. StartsBy now (f g).decision) same (law g (subst (λ now. now ≤ FAR) (sym same) far))

-- where a node stops its schedule, there is no start
pub ended_starts : (now : ℕ) (over : Bool) (a : Answer) → StartsBy now a.decision
    → StartsBy now (ended_where over a).decision
ended_starts now true a starts = tt
ended_starts now false a starts = starts

pub passed_starts : (now : ℕ) (goes : Bool) (a : Answer) → StartsBy now a.decision
    → StartsBy now (cond goes a (ended a)).decision
passed_starts now true a starts = starts
passed_starts now false a starts = tt

one_law : (k : One) (f : List Event → Answer) → Starts f → Starts (changed k f)
one_law (Gate side want test bound) f law h far =
    passed_starts (last_moment h) (is_wanted want (passes test bound (tested side (last_input h) (f h)))) (f h)
    (law h far)
one_law (Gather fold) f law h far = law h far
one_law (Add d) f law h far = moved_starts (added d) _ (f h).decision far
one_law (Set d) f law h far = moved_starts (λ _. d) _ (f h).decision far
one_law (Cap d) f law h far = moved_starts (λ delay. min delay d) _ (f h).decision far
one_law AddOut f law h far = moved_starts (added_out (f h).output) _ (f h).decision far
one_law (Jitter lane least most) f law h far =
    moved_starts (jittered least most (get_or (last_words h) lane 0)) _ (f h).decision far
one_law (Within d) f law h far =
    ended_starts (last_moment h) (nat_le d (last_moment h - first_moment h)) (f h) (law h far)
one_law (EndsBy d) f law h far =
    ended_starts (last_moment h) (goes_past (capped (first_moment h + d)) (f h).decision) (f h) (law h far)
one_law (Renew d) f law h far = same_end f law (last_block d h) h (last_block_ends d h) far
one_law (RenewIdle d) f law h far = same_end f law (last_run d h) h (last_run_ends d h) far
one_law First f law h far = law h far
one_law Second f law h far = law h far
one_law Nothing f law h far = law h far

-- the suffix that a schedule after another answers on
follow_law : (f g : List Event → Answer) → Starts f → Starts g → (h : List Event) (crossed : Option (List Event)) →
    crossing f h ≡ crossed → last_moment h ≤ FAR → StartsBy (last_moment h) (follow_answer f g crossed h).decision
follow_law f g first second h None at far = first h far
follow_law f g first second h (Some p) at far =
    let short = crossing-short f h p at in
    same_end g second (from_end_of p h) h (last_moment-drop (length p - 1) h (omega (arith, short))) far

two_law : (k : Two) (f g : List Event → Answer) → Starts f → Starts g → Starts (combined k f g)
two_law Meet f g first second h far = meet_starts _ (f h).decision (g h).decision (first h far) (second h far)
two_law Join f g first second h far = join_starts _ (f h).decision (g h).decision (first h far) (second h far)
two_law Follow f g first second h far = follow_law f g first second h (crossing f h) refl far
two_law Feed f g first second h far =
    meet_starts _ (f h).decision (g (fed f h)).decision (first h far)
    (same_end g second (fed f h) h (fed-last_moment f h) far)

starts_law : (s : Schedule) → Starts (answer s)
starts_law (leaf l) h far = leaf_law l h far
starts_law (one k a) h far = one_law k (answer a) (starts_law a) h far
starts_law (two k a b) h far = two_law k (answer a) (answer b) (starts_law a) (starts_law b) h far

pub starts_are_not_before : StartsAreNotBefore
starts_are_not_before = starts_law
