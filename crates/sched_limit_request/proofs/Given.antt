-- What a request gives back, its pass has gained.
use Rattle.std.specs.Prelude.{Option, Some, None}
use Rattle.std.proofs.Common.{ℕ, ◌+◌, ◌≤◌, List, arith}
use Rattle.sched_limit_word.specs.Rule.{Next}
use Rattle.sched_limit_word.specs.Tokens.{Tokens, gained_by, used_by}
use Rattle.sched_limit_word.specs.declared.call.Call.{Call}
use Rattle.sched_limit_word.specs.declared.view.Move.{Move}
use Rattle.sched_limit.specs.Holds.{Holds, IsHonest, IsHeld, MayMake, used_at}
use Rattle.sched_limit.specs.Step.{Rules, call_of}
use Rattle.sched_limit.specs.declared.request.Request.{Request}
use Rattle.sched_limit.specs.declared.request.Told.{Told}

may_at : (o : Tokens) (next : Next) (holds : ℕ → ℕ) (c : Option Call) (moves : List Move)
    → ((word kind : ℕ) → used_at o next c word kind ≤ holds kind)
    → ((kind : ℕ) → used_by o kind moves + holds kind ≤ gained_by o kind moves) → MayMake o next c moves
may_at o next holds None moves uses has = tt
may_at o next holds (Some c) moves uses has = λ word kind some. omega (arith, uses word kind, has kind)

pub may_make : (o : Tokens) (m : Rules) (holds : Holds) → IsHonest o m holds
    → (told : Told) (random : ℕ) (r : Request) (moves : List Move) → IsHeld o holds r moves
    → MayMake o m.next (call_of m.worth told random r) moves
may_make o m holds honest told random r moves has =
    may_at o m.next (holds r) (call_of m.worth told random r) moves (honest.uses told random r) has
