-- The step of a leaf.
use Rattle.std.proofs.Common.{◌≡◌, ℕ, ◌+◌, ◌-◌, ◌*◌, List, [], ◌∷◌, ◌++◌, length, true, false, if◌then◌else◌, ltb, eqb}
use Rattle.std.proofs.Common.{IsTrue, get_or, refl, sym, ap, ◌∙◌, arith, leb-true, lt-ltb}
use Rattle.std.proofs.lemmas.Bool.{ne_eqb}
use Rattle.std.proofs.lemmas.List.{length_push}
use Rattle.std.proofs.lemmas.List.Sums.{fold-append}
use Rattle.sched_time.specs.Capped.{capped}
use Rattle.sched_time.specs.declared.numbers.TheConstants.{FAR}
use Rattle.sched_time.specs.declared.starts.Decision.TheVariants.{Go, Done}
use Rattle.sched_plan.specs.Datum.{num}
use Rattle.sched_plan.specs.History.{words_in}
use Rattle.sched_plan.proofs.HistoryLaws.{last_moment-push, last_input-push, words_in-push}
use Rattle.sched_plan.specs.Sequences.{linear_at, exponential_at, milli_at, fibonacci_at, decorrelated_after}
use Rattle.sched_plan.specs.Sequences.{decorrelated_at, unfold_at}
use Rattle.sched_plan.proofs.SequenceLaws.{linear_at-capped, exponential_at-next, milli_at-next, fibonacci_at-next}
use Rattle.sched_plan.proofs.SequenceLaws.{unfold_at-next}
use Rattle.sched_plan.specs.Schedule.{leaf_in_range}
use Rattle.sched_plan.specs.Answer.{leaf_answer, leaf_output, leaf_decision, next_boundary}
use Rattle.sched_plan.specs.declared.leaves.Leaf.{Leaf}
use Rattle.sched_plan.specs.declared.leaves.Leaf.TheVariants.{Forever, Recurs, Spaced, Fixed, Windowed, Linear}
use Rattle.sched_plan.specs.declared.leaves.Leaf.TheVariants.{Exponential, ExponentialMilli, Fibonacci, Decorrelated}
use Rattle.sched_plan.specs.declared.leaves.Leaf.TheVariants.{Elapsed, Identity, Unfold, Lone}
use Rattle.sched_plan.specs.declared.history.Event.{Event}
use Rattle.sched_step.specs.declared.leaves.LeafState.TheVariants.{Counted, Planned, Windows, Product, Scaled, Summands}
use Rattle.sched_step.specs.declared.leaves.LeafState.TheVariants.{Waited, Started, Unfolded, Spent}
use Rattle.sched_step.specs.StateOf.{leaf_state}
use Rattle.sched_step.specs.Step.{next_linear, next_decorrelated, leaf_next, leaf_gives, leaf_decides, leaf_answers}
use Rattle.sched_step.proofs.History.{length_before-push, repeats-push, capped_count-push, capped_below}
use Rattle.sched_step.proofs.Moments.{began_at-push, first_moment_kept}
use Rattle.sched_step.proofs.Fixed.{fixed_start-push, first_and_start-push}

-- linear, from the count
linear-push : (delay : ℕ) (h : List Event) (e : Event)
    → next_linear delay (capped (length h)) ≡ linear_at delay (length (h ++ e ∷ []))
linear-push delay h e =
    ap (λ n. capped (delay * n)) (capped_count-push h e) ∙ linear_at-capped delay (length (h ++ e ∷ []))

-- a sequence at the event, which is the next one after the history
at_next : (sequence : ℕ → ℕ) (h : List Event) (e : Event) → sequence (length h + 1) ≡ sequence (length (h ++ e ∷ []))
at_next sequence h e = ap sequence (sym (length_push h e))

-- fibonacci, from the two numbers that come next
fibonacci-push : (delay : ℕ) (h : List Event) (e : Event) →
    capped (fibonacci_at delay (length h + 1) + fibonacci_at delay (length h + 2))
    ≡ fibonacci_at delay (length (h ++ e ∷ []) + 2)
fibonacci-push delay h e =
    let second : length h + 2 ≡ length h + 1 + 1 = omega arith in
    let third : length h + 1 + 1 + 1 ≡ length (h ++ e ∷ []) + 2 = omega (arith, length_push h e) in
    ap (λ n. capped (fibonacci_at delay (length h + 1) + fibonacci_at delay n)) second
    ∙ fibonacci_at-next delay (length h + 1)
    ∙ ap (fibonacci_at delay) third

-- decorrelated jitter, from the delay before
decorrelated-push : (lane base thousandths most : ℕ) (h : List Event) (e : Event) →
    next_decorrelated lane base thousandths most (decorrelated_at base thousandths most (words_in lane h)) e ≡
    decorrelated_at base thousandths most (words_in lane (h ++ e ∷ []))
decorrelated-push lane base thousandths most h e =
    sym (fold-append (decorrelated_after base thousandths most) base (words_in lane h) (get_or e.words lane 0 ∷ []))
    ∙ ap (decorrelated_at base thousandths most) (sym (words_in-push lane h e))

-- a history is one event where there was none before
lone-push : {X : Type 0} (h : List Event) (e : Event) (first later : X) →
    (if ltb 0 (length h) then later else first) ≡ (if eqb (length (h ++ e ∷ [])) 1 then first else later)
lone-push [] e first later = refl
lone-push (c ∷ h) e first later =
    let some : ltb 0 (length (c ∷ h)) ≡ true = lt-ltb 0 (length (c ∷ h)) (omega arith) in
    let more : eqb (length (c ∷ h ++ e ∷ [])) 1 ≡ false =
    ne_eqb (length (c ∷ h ++ e ∷ [])) 1 (λ is. absurd (omega (arith, is, length_push h e))) in
    ap (λ b. if b then later else first) some ∙ sym (ap (λ b. if b then first else later) more)

-- the leaf's state grows with the history
pub leaf_next-push : (l : Leaf) (h : List Event) (e : Event)
    → leaf_next l (leaf_state l h) e ≡ leaf_state l (h ++ e ∷ [])
leaf_next-push Forever h e = ap Counted (capped_count-push h e)
leaf_next-push (Recurs count) h e = ap Counted (capped_count-push h e)
leaf_next-push (Spaced delay) h e = ap Counted (capped_count-push h e)
leaf_next-push (Fixed d) h e = λ i. Planned (capped_count-push h e i) (first_and_start-push d h e i)
leaf_next-push (Windowed d) h e = λ i. Windows (capped_count-push h e i) (began_at-push h e i)
leaf_next-push (Linear delay) h e = ap Counted (capped_count-push h e)
leaf_next-push (Exponential base factor) h e =
    ap Product (exponential_at-next base factor (length h) ∙ at_next (λ n. exponential_at base factor (n + 1)) h e)
leaf_next-push (ExponentialMilli base thousandths) h e =
    ap Scaled (milli_at-next base thousandths (length h) ∙ at_next (λ n. milli_at base thousandths (n + 1)) h e)
leaf_next-push (Fibonacci delay) h e =
    let second : length h + 2 ≡ length (h ++ e ∷ []) + 1 = omega (arith, length_push h e) in
    λ i. Summands (fibonacci_at delay (second i)) (fibonacci-push delay h e i)
leaf_next-push (Decorrelated lane base thousandths most) h e =
    ap Waited (decorrelated-push lane base thousandths most h e)
leaf_next-push Elapsed h e = ap Started (began_at-push h e)
leaf_next-push Identity h e = refl
leaf_next-push (Unfold seed factor more) h e =
    ap Unfolded (unfold_at-next seed factor more (length h) ∙ at_next (λ n. unfold_at seed factor more (n + 1)) h e)
leaf_next-push (Lone delay) h e = ap Spent (sym (lt-ltb 0 (length (h ++ e ∷ [])) (omega (arith, length_push h e))))

-- its output is the definition's
leaf_gives-push : (l : Leaf) (h : List Event) (e : Event)
    → leaf_gives l (leaf_state l h) e ≡ leaf_output l (h ++ e ∷ [])
leaf_gives-push Forever h e = ap num (sym (repeats-push h e))
leaf_gives-push (Recurs count) h e = ap num (sym (repeats-push h e))
leaf_gives-push (Spaced delay) h e = ap num (sym (repeats-push h e))
leaf_gives-push (Fixed d) h e = ap num (sym (repeats-push h e))
leaf_gives-push (Windowed d) h e = ap num (sym (repeats-push h e))
leaf_gives-push (Linear delay) h e = ap num (linear-push delay h e)
leaf_gives-push (Exponential base factor) h e = ap num (at_next (exponential_at base factor) h e)
leaf_gives-push (ExponentialMilli base thousandths) h e = ap num (at_next (milli_at base thousandths) h e)
leaf_gives-push (Fibonacci delay) h e = ap num (at_next (fibonacci_at delay) h e)
leaf_gives-push (Decorrelated lane base thousandths most) h e =
    ap num (decorrelated-push lane base thousandths most h e)
leaf_gives-push Elapsed h e = λ i. num (sym (last_moment-push h e) i - first_moment_kept h e i)
leaf_gives-push Identity h e = sym (last_input-push h e)
leaf_gives-push (Unfold seed factor more) h e = ap num (at_next (unfold_at seed factor more) h e)
leaf_gives-push (Lone delay) h e = ap num (lone-push h e delay 0)

-- so is its decision
leaf_decides-push : (l : Leaf) (h : List Event) (e : Event) → IsTrue (leaf_in_range l) →
    leaf_decides l (leaf_state l h) e ≡ leaf_decision l (h ++ e ∷ [])
leaf_decides-push Forever h e valid = ap Go (sym (last_moment-push h e))
leaf_decides-push (Recurs count) h e valid =
    rw (last_moment-push h e, length_before-push h e, capped_below (length h) count (leb-true count FAR valid)) refl
leaf_decides-push (Spaced delay) h e valid = ap (λ now. Go (capped (now + delay))) (sym (last_moment-push h e))
leaf_decides-push (Fixed d) h e valid = ap Go (sym (fixed_start-push d h e))
leaf_decides-push (Windowed d) h e valid = λ i.
    Go (next_boundary d (first_moment_kept h e i) (sym (last_moment-push h e) i))
leaf_decides-push (Linear delay) h e valid = λ i. Go (capped (sym (last_moment-push h e) i + linear-push delay h e i))
leaf_decides-push (Exponential base factor) h e valid =
    λ i. Go (capped (sym (last_moment-push h e) i + at_next (exponential_at base factor) h e i))
leaf_decides-push (ExponentialMilli base thousandths) h e valid =
    λ i. Go (capped (sym (last_moment-push h e) i + at_next (milli_at base thousandths) h e i))
leaf_decides-push (Fibonacci delay) h e valid =
    λ i. Go (capped (sym (last_moment-push h e) i + at_next (fibonacci_at delay) h e i))
leaf_decides-push (Decorrelated lane base thousandths most) h e valid =
    λ i. Go (capped (sym (last_moment-push h e) i + decorrelated-push lane base thousandths most h e i))
leaf_decides-push Elapsed h e valid = ap Go (sym (last_moment-push h e))
leaf_decides-push Identity h e valid = ap Go (sym (last_moment-push h e))
leaf_decides-push (Unfold seed factor more) h e valid = ap Go (sym (last_moment-push h e))
leaf_decides-push (Lone delay) h e valid =
    lone-push h e (Go (capped (e.now + delay))) Done
    ∙ ap (λ now. if eqb (length (h ++ e ∷ [])) 1 then Go (capped (now + delay)) else Done) (sym (last_moment-push h e))

-- the leaf answers by the definition
pub leaf_answers-push : (l : Leaf) (h : List Event) (e : Event) → IsTrue (leaf_in_range l) →
    leaf_answers l (leaf_state l h) e ≡ leaf_answer l (h ++ e ∷ [])
leaf_answers-push l h e valid =
    λ i. record { output = leaf_gives-push l h e i; decision = leaf_decides-push l h e valid i }
