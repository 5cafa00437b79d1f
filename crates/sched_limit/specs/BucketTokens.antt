-- What a bucket's requests may give back: a granted draw gains a token of the kind that is its cost, which its return
-- uses. What cost nothing leaves none.
use Rattle.std.specs.Prelude.{ℕ, zero, suc, ◌+◌, ◌≤◌, ◌==◌, if◌then◌else◌, nat_lt, Option, Some, None}
use Rattle.std.proofs.Common.{arith}
use Rattle.atomic_table.specs.Table.{State}
use Rattle.sched_limit_word.specs.Rule.{moves_of}
use Rattle.sched_limit_word.specs.Tokens.{Tokens, IsOwned}
use Rattle.sched_limit_word.specs.declared.call.Call.{Call}
use Rattle.sched_limit_word.specs.declared.call.Call.TheVariants.{Draw, Returned}
use Rattle.sched_limit_word.specs.declared.view.Move.{Move}
use Rattle.sched_limit_word.specs.declared.view.View.{View}
use Rattle.sched_limit.specs.Bucket.{bucket_next}
use Rattle.sched_limit.specs.Holds.{Holds, IsHonest}
use Rattle.sched_limit.specs.Kinds.{bucket_rules}
use Rattle.sched_limit.specs.declared.bucket.Bucket.{Bucket}

-- one of the kind that is this cost
abbrev pub of_cost : ℕ → ℕ → ℕ
of_cost cost zero = 0
of_cost cost (suc kind) = if cost == suc kind then 1 else 0

abbrev pub bucket_gained : Bucket → Call → ℕ → ℕ → ℕ
bucket_gained b (Draw now cost slots) kind level = if nat_lt level (b.floor + cost) then 0 else of_cost cost kind
bucket_gained b c kind level = 0

abbrev pub bucket_used : Call → ℕ → ℕ
bucket_used (Returned cost slots) kind = of_cost cost kind
bucket_used c kind = 0

abbrev pub bucket_tokens : Bucket → Tokens
bucket_tokens b = record {
  gained = λ m kind. bucket_gained b m.call kind m.found;
  used = λ m kind. bucket_used m.call kind;
}

-- what was drawn, if anything was
abbrev pub held_of : Option ℕ → ℕ → ℕ
held_of None kind = 0
held_of (Some cost) kind = of_cost cost kind

abbrev pub bucket_holds : Holds
bucket_holds r kind = held_of r.drawn kind

-- of the draws of each cost, at most as many came back as were granted
abbrev pub DrawsComeBackOnce : Type 0
DrawsComeBackOnce = (b : Bucket) (s : State Call View) → IsOwned (bucket_tokens b) (bucket_next b) b.capacity s →
    (cost : ℕ) → moves_of (λ (m : Move). bucket_used m.call cost) s.views
    ≤ moves_of (λ (m : Move). bucket_gained b m.call cost m.found) s.views

pub bucket_honest : (b : Bucket) → IsHonest (bucket_tokens b) (bucket_rules b) bucket_holds
bucket_honest b = record {
  none = λ kind. grind arith;
  uses = λ told random r word kind. grind arith;
  moves = λ told random r word kind. grind arith;
  stays = λ told random r word kind same. grind (arith, same);
  lost = λ told r kind. grind arith;
}
