-- Requests of a machine without tokens hold none.
use Rattle.std.specs.Prelude.{◌≡◌, ℕ, Option, Some, None, refl}
use Rattle.std.proofs.Common.{arith}
use Rattle.sched_limit_word.specs.Rule.{Next}
use Rattle.sched_limit_word.specs.Tokens.{no_tokens}
use Rattle.sched_limit_word.specs.declared.call.Call.{Call}
use Rattle.sched_limit.specs.Step.{Rules, call_of}
use Rattle.sched_limit.specs.Holds.{IsHonest, no_holds, used_at}

none_used : (next : Next) (c : Option Call) (word kind : ℕ) → used_at no_tokens next c word kind ≡ 0
none_used next None word kind = refl
none_used next (Some c) word kind = refl

pub free_honest : (m : Rules) → IsHonest no_tokens m no_holds
free_honest m = record {
  none = λ kind. refl;
  uses = λ told random r word kind. omega (arith, none_used m.next (call_of m.worth told random r) word kind);
  moves = λ told random r word kind. omega (arith, none_used m.next (call_of m.worth told random r) word kind);
  stays = λ told random r word kind same. omega arith;
  lost = λ told r kind. omega arith;
}
