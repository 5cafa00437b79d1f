-- The random words of events, by a seed.
use Rattle.std.specs.Prelude.{ℕ, suc, zero, List, [], ◌∷◌}
use Rattle.rand_core.specs.Stream.{Stream}
use Rattle.rand_core.specs.Steps.{stream_of, steps_u32}
use Rattle.rand_xoshiro.specs.Xoshiro128.{of_seed, plus_plus}
use Rattle.rand_xoshiro.specs.SplitMix64.{splitmix_seed}
use Rattle.sched_task.specs.Words.{next_four}

-- what xoshiro128++ answers that is seeded with this number
abbrev pub seeded : ℕ → Stream
seeded seed = stream_of (steps_u32 plus_plus) (of_seed (splitmix_seed 16 seed))

-- the words of the next n events, four at each
abbrev pub fours : ℕ → Stream → List (List ℕ)
fours zero s = []
fours (suc n) s = (next_four s).0 ∷ fours n (next_four s).1
