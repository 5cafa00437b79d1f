-- Each request of an adaptive limit gives back its place once.
use Rattle.std.proofs.Common.{arith}
use Rattle.sched_limit.specs.AdaptiveTokens.{adaptive_tokens, adaptive_holds}
use Rattle.sched_limit.specs.Holds.{IsHonest}
use Rattle.sched_limit.specs.Kinds.{adaptive_rules}
use Rattle.sched_limit.specs.declared.adaptive.Adaptive.{Adaptive}

pub adaptive_honest : (k : Adaptive) → IsHonest adaptive_tokens (adaptive_rules k) adaptive_holds
adaptive_honest k = record {
  none = λ kind. grind arith;
  uses = λ told random r word kind. grind arith;
  moves = λ told random r word kind. grind arith;
  stays = λ told random r word kind same. grind (arith, same);
  lost = λ told r kind. grind arith;
}
