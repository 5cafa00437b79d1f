-- The tokens of an adaptive limit, of each kind alike: an admission gains one, which the request's end gives back.
use Rattle.std.specs.Prelude.{ℕ, if◌then◌else◌}
use Rattle.sched_limit_word.specs.Tokens.{Tokens}
use Rattle.sched_limit_word.specs.declared.call.Call.{Call}
use Rattle.sched_limit_word.specs.declared.call.Call.TheVariants.{Admit, Ended}
use Rattle.sched_limit.specs.Adaptive.{has_room}
use Rattle.sched_limit.specs.Holds.{Holds}

abbrev pub adaptive_gained : Call → ℕ → ℕ
adaptive_gained (Admit now random before) found = if has_room found then 1 else 0
adaptive_gained call found = 0

abbrev pub adaptive_used : Call → ℕ
adaptive_used (Ended slots) = 1
adaptive_used call = 0

abbrev pub adaptive_tokens : Tokens
adaptive_tokens = record {
  gained = λ m kind. adaptive_gained m.call m.found;
  used = λ m kind. adaptive_used m.call;
}

abbrev pub adaptive_holds : Holds
adaptive_holds r kind = if r.counted then 1 else 0
