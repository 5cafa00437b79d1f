-- How a limit stands, as it is kept.
use Rattle.std.specs.Prelude.{slice_index_or}
use Rattle.sched_limit.specs.Step.{nothing}
use Rattle.sched_storm_limit.specs.Limits.{LimitState}
use Rattle.sched_storm_limit.specs.Words.{words_of}
use Rattle.sched_storm_limit.specs.declared.stand.Stand.{Stand}

-- what is not kept of a request is that it holds nothing
abbrev pub state_of : Stand → LimitState
state_of s = record {
  words = words_of s.words;
  holds = λ r. slice_index_or s.holds.items r nothing;
}
