-- The words of a state tell it: they have the schedule's width, and what is read of them is what was kept.
use Rattle.std.proofs.Common.{◌≡◌, ℕ, ◌+◌, List, [], ◌∷◌, ◌++◌, length, take, drop, Option, Some}
use Rattle.std.proofs.Common.{None, refl, sym, ap, ◌∙◌, arith, get_or}
use Rattle.sched_time.specs.Capped.{capped}
use Rattle.sched_plan.specs.Schedule.{Schedule, leaf, one, two}
use Rattle.sched_plan.specs.Answer.{answer, crossing}
use Rattle.sched_plan.specs.Rounds.{last_block}
use Rattle.sched_plan.specs.declared.leaves.Leaf.{Leaf}
use Rattle.sched_plan.specs.declared.leaves.Leaf.TheVariants.{Fixed, Windowed, Elapsed, Lone}
use Rattle.sched_plan.specs.declared.nodes.Fold.TheVariants.{Sum, Count, Max, List as Listing}
use Rattle.sched_plan.specs.declared.nodes.One.{One}
use Rattle.sched_plan.specs.declared.nodes.One.TheVariants.{Gather, Within, EndsBy, Renew, RenewIdle}
use Rattle.sched_plan.specs.declared.nodes.Two.{Two}
use Rattle.sched_plan.specs.declared.nodes.Two.TheVariants.{Meet, Join, Follow, Feed}
use Rattle.sched_plan.specs.declared.history.Event.{Event}
use Rattle.sched_plan.specs.declared.history.Answer.{Answer}
use Rattle.sched_step.specs.Progress.{Kept, none_kept, since, round_since, last_at}
use Rattle.sched_step.specs.StateOf.{began_at, ended_at, first_and_start, leaf_state, kept_of, seen, turn_of}
use Rattle.sched_step.specs.StateOf.{first_seen, second_seen, first_kept, first_turn, state_of}
use Rattle.sched_step.specs.declared.leaves.LeafState.TheVariants.{Planned, Windows, Started}
use Rattle.sched_step.proofs.laws.First.{first_one, first_two}
use Rattle.std.proofs.lemmas.List.{length-append}
use Rattle.std.proofs.Math.Seq.{take-append_seam, drop-append_seam}
use Rattle.sched_step_flat.specs.Words.{leaf_width, one_width, two_width, width_of, moment_word, moment_from}
use Rattle.sched_step_flat.specs.Words.{planned_words, planned_from, leaf_words, leaf_from, kept_words, kept_from}
use Rattle.sched_step_flat.specs.Words.{turn_words, words_of, blank}

moment_back : (m : Option ℕ) → moment_from (moment_word m) ≡ m
moment_back None = refl
moment_back (Some m) = grind arith

planned_back : (p : Option (ℕ × ℕ)) →
    planned_from (get_or (planned_words p) 0 0) (get_or (planned_words p) 1 0) ≡ p
planned_back None = refl
planned_back (Some p) = grind arith

planned_length : (p : Option (ℕ × ℕ)) → length (planned_words p) ≡ 2
planned_length None = refl
planned_length (Some p) = refl

-- the state that is read of a leaf's words
pub leaf_back : (l : Leaf) (h : List Event) → leaf_from l (leaf_words (leaf_state l h)) ≡ leaf_state l h
leaf_back (Fixed d) [] = refl
leaf_back (Fixed d) (e ∷ h) = ap (Planned (capped (length (e ∷ h)))) (planned_back (first_and_start d (e ∷ h)))
leaf_back (Windowed d) h = ap (Windows (capped (length h))) (moment_back (began_at h))
leaf_back Elapsed h = ap Started (moment_back (began_at h))
leaf_back (Lone delay) [] = refl
leaf_back (Lone delay) (e ∷ h) = grind arith
leaf_back l h = refl

pub leaf_length : (l : Leaf) (h : List Event) → length (leaf_words (leaf_state l h)) ≡ leaf_width l
leaf_length (Fixed d) [] = refl
leaf_length (Fixed d) (e ∷ h) = refl
leaf_length l h = refl

-- what is read of a node's own word; the list of a fold is not
abbrev pub readable : One → Kept → Kept
readable (Gather Listing) s = none_kept
readable k s = s

pub kept_back : (k : One) (f : List Event → Answer) (h : List Event) →
    kept_from k (get_or (kept_words (kept_of k f h)) 0 0) ≡ readable k (kept_of k f h)
kept_back (Gather Sum) f h = refl
kept_back (Gather Count) f h = refl
kept_back (Gather Max) f h = refl
kept_back (Gather Listing) f h = refl
kept_back (Within d) f h = ap since (moment_back (began_at h))
kept_back (EndsBy d) f h = ap since (moment_back (began_at h))
kept_back (Renew d) f h = ap round_since (moment_back (began_at (last_block d h)))
kept_back (RenewIdle d) f h = ap last_at (moment_back (ended_at h))
kept_back k f h = refl

pub kept_length : (k : One) (f : List Event → Answer) (h : List Event) →
    length (kept_words (kept_of k f h)) ≡ one_width k
kept_length (Gather Sum) f h = refl
kept_length (Gather Count) f h = refl
kept_length (Gather Max) f h = refl
kept_length (Gather Listing) f h = refl
kept_length k f h = refl

follow_length : (f : List Event → Answer) (h : List Event) (c : Option (List Event)) → crossing f h ≡ c →
    length (turn_words (turn_of Follow f h)) ≡ 1
follow_length f h None is = rw is refl
follow_length f h (Some p) is = rw is refl

pub turn_length : (k : Two) (f : List Event → Answer) (h : List Event) →
    length (turn_words (turn_of k f h)) ≡ two_width k
turn_length Meet f h = refl
turn_length Join f h = refl
turn_length Feed f h = refl
turn_length Follow f h = follow_length f h (crossing f h) refl

-- a record has the schedule's width
pub words_length : (s : Schedule) (h : List Event) → length (words_of (state_of s h)) ≡ width_of s
words_length (leaf l) h = leaf_length l h
words_length (one k a) h =
    length-append (kept_words (kept_of k (answer a) h)) _
    ∙ (λ i. kept_length k (answer a) h i + words_length a (seen k h) i)
words_length (two k a b) h =
    let g = first_seen k (answer a) h in let d = second_seen k (answer a) h in
    length-append (turn_words (turn_of k (answer a) h)) (words_of (state_of a g) ++ words_of (state_of b d))
    ∙ (λ i. turn_length k (answer a) h i + length-append (words_of (state_of a g)) (words_of (state_of b d)) i)
    ∙ (λ i. two_width k + (words_length a g i + words_length b d i))

-- the words before the first event are those of the state there
pub blank_is : (s : Schedule) → blank s ≡ words_of (state_of s [])
blank_is (leaf l) = refl
blank_is (one k a) = (λ i. kept_words (first_kept k) ++ blank_is a i) ∙ ap words_of (sym (first_one k a))
blank_is (two k a b) =
    (λ i. turn_words (first_turn k) ++ (blank_is a i ++ blank_is b i)) ∙ ap words_of (sym (first_two k a b))

pub take_front : (xs ys : List ℕ) (n : ℕ) → length xs ≡ n → take n (xs ++ ys) ≡ xs
take_front xs ys n is = ap (λ n. take n (xs ++ ys)) (sym is) ∙ take-append_seam xs ys

pub drop_front : (xs ys : List ℕ) (n : ℕ) → length xs ≡ n → drop n (xs ++ ys) ≡ ys
drop_front xs ys n is = ap (λ n. drop n (xs ++ ys)) (sym is) ∙ drop-append_seam xs ys

-- words written over as many others are all that is left
pub refilled : (old new : List ℕ) → length new ≡ length old → take (length old) (new ++ drop (length new) old) ≡ new
refilled old new same = take_front new (drop (length new) old) (length old) same
