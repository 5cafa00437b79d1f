-- The words of events, one event after another.
use Rattle.std.proofs.Common.{◌≡◌, ◌<◌, ◌-◌, ◌+◌, ℕ, suc, List, [], ◌∷◌, ◌++◌, sym, ◌∙◌, ap, append_assoc, arith}
use Rattle.rand_core.specs.Stream.{Stream}
use Rattle.sched_task.specs.Words.{next_four}
use Rattle.sched_cli_words.specs.Seeded.{fours}

-- with the words of one event more, the words of all are those so far and those of the rest
pub with_next : (front : List (List ℕ)) (all : List (List ℕ)) (n k : ℕ) (s : Stream) → k < n →
    front ++ fours (n - k) s ≡ all → (front ++ (next_four s).0 ∷ []) ++ fours (n - (k + 1)) (next_four s).1 ≡ all
with_next front all n k s less h =
    let more : n - k ≡ suc (n - (k + 1)) = omega arith in
    append_assoc front ((next_four s).0 ∷ []) (fours (n - (k + 1)) (next_four s).1)
    ∙ ap (λ m. front ++ fours m s) (sym more) ∙ h
