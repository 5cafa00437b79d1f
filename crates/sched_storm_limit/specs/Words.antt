-- The words of a limit, as they are kept.
use Rattle.rand_core.specs.Steps.{stream_of, steps_u32}
use Rattle.rand_xoshiro.specs.Xoshiro128.{plus_plus}
use Rattle.sched_storm_limit.specs.Limits as limits
use Rattle.sched_storm_limit.specs.declared.words.Words.{Words}

abbrev pub words_of : Words → limits.Words
words_of w = record { word = w.word; odd = w.odd; random = stream_of (steps_u32 plus_plus) w.random }
