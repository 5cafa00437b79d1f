-- The words of polls.
use Rattle.std.specs.Prelude.{ℕ, List, [], ◌∷◌}
use Rattle.rand_core.specs.Stream.{Stream, next_u32}

-- the next four words of a generator, and what it will answer from then on
abbrev pub next_four : Stream → List ℕ × Stream
next_four s0 =
    let first = next_u32 s0 in
    let second = next_u32 first.1 in
    let third = next_u32 second.1 in
    let fourth = next_u32 third.1 in
    (first.0 ∷ second.0 ∷ third.0 ∷ fourth.0 ∷ [], fourth.1)
