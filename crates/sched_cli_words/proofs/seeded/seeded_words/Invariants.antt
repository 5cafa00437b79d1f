-- The words so far, with those that the generator gives from here on, are those of the seed.
use Rattle.std.proofs.Common.{◌≡◌, ◌-◌, ◌++◌}
use Rattle.rand_core.specs.Steps.{stream_of, steps_u32}
use Rattle.rand_xoshiro.specs.Xoshiro128.{plus_plus}
use Rattle.sched_cli_words.specs.Seeded.{fours, seeded}
use Rattle.sched_cli_words.proofs.seeded.seeded_words.Given as goal

-- the words so far, and those that the generator gives from here on
abbrev pub invariant-loop : goal.invariant-loop
invariant-loop l =
    l.words.items ++ fours (l.events - l.counter) (stream_of (steps_u32 plus_plus) l.generator)
    ≡ fours l.events (seeded l.seed)
