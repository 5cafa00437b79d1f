-- The delays of decorrelated jitter.
use Rattle.std.proofs.Common.{ℕ, ◌+◌, ◌≤◌, min, List, [], ◌∷◌, fold, refl, arith}
use Rattle.sched_time.specs.Capped.{capped}
use Rattle.sched_time.specs.declared.numbers.TheConstants.{FAR}
use Rattle.sched_plan.specs.History.{words_in}
use Rattle.sched_plan.specs.Sequences.{decorrelated_after, decorrelated_at}
use Rattle.sched_plan_laws.specs.Delays.{DecorrelatedIsBounded}

-- what is added to the base leaves it at least that, and at most the longest
picks : (base most more : ℕ) → base ≤ most → most ≤ FAR →
    (base ≤ min most (capped (base + more))) × (min most (capped (base + more)) ≤ most)
picks base most more low high = (omega (arith, low, high), omega arith)

delays : (base thousandths most : ℕ) → base ≤ most → most ≤ FAR → (before : ℕ) → base ≤ before → before ≤ most
    → (words : List ℕ) →
    (base ≤ fold (decorrelated_after base thousandths most) before words)
    × (fold (decorrelated_after base thousandths most) before words ≤ most)
delays base thousandths most low high before above below [] = (above, below)
delays base thousandths most low high before above below (word ∷ words) =
    let next = picks base most _ low high in
    delays base thousandths most low high (decorrelated_after base thousandths most before word) next.0 next.1 words

pub decorrelated_is_bounded : DecorrelatedIsBounded
decorrelated_is_bounded lane base thousandths most low high h =
    let bounds = delays base thousandths most low high base (omega arith) low (words_in lane h) in
    (decorrelated_at base thousandths most (words_in lane h), refl, bounds.0, bounds.1)
