-- What a request holds of its limit's tokens: it gives back what it holds, and no more.
use Rattle.std.specs.Prelude.{◌≡◌, ℕ, ◌+◌, ◌≤◌, List, Option, Some, None}
use Rattle.sched_limit_word.specs.Rule.{Next}
use Rattle.sched_limit_word.specs.View.{move}
use Rattle.sched_limit_word.specs.Tokens.{Tokens, MayCall, gained_by, used_by}
use Rattle.sched_limit_word.specs.declared.call.Call.{Call}
use Rattle.sched_limit_word.specs.declared.view.Move.{Move}
use Rattle.sched_limit.specs.Step.{Rules, call_of, made, nothing, lost_held, step}
use Rattle.sched_limit.specs.declared.request.Request.{Request}
use Rattle.sched_limit.specs.declared.request.Told.{Told}

-- how many tokens of each kind a request holds
abbrev pub Holds : Type 0
Holds = Request → ℕ → ℕ

-- no request of a machine without tokens holds any
abbrev pub no_holds : Holds
no_holds r kind = 0

-- what a call, if there is one, gains and uses at the word that it finds
abbrev pub gained_at : Tokens → Next → Option Call → ℕ → ℕ → ℕ
gained_at o next None word kind = 0
gained_at o next (Some c) word kind = o.gained (move c word (next c word)) kind

abbrev pub used_at : Tokens → Next → Option Call → ℕ → ℕ → ℕ
used_at o next None word kind = 0
used_at o next (Some c) word kind = o.used (move c word (next c word)) kind

-- of what a step tells: its call, and the request that it leaves
abbrev pub gained_in : Tokens → Rules → Told → ℕ → Request → ℕ → ℕ → ℕ
gained_in o m told random r word kind = gained_at o m.next (call_of m.worth told random r) word kind

abbrev pub used_in : Tokens → Rules → Told → ℕ → Request → ℕ → ℕ → ℕ
used_in o m told random r word kind = used_at o m.next (call_of m.worth told random r) word kind

-- Each step uses tokens that its request holds. What the request then holds is what is left of them, and what the step
-- gained: nothing of it where the word stays as it is.
pub record IsHonest (o : Tokens) (m : Rules) (holds : Holds) : Type 0 where
  pub none : (kind : ℕ) → holds nothing kind ≡ 0
  pub uses : (told : Told) (random : ℕ) (r : Request) (word kind : ℕ) →
      used_in o m told random r word kind ≤ holds r kind
  pub moves : (told : Told) (random : ℕ) (r : Request) (word kind : ℕ) →
      holds (step m told random r word).request kind + used_in o m told random r word kind
      ≤ holds r kind + gained_in o m told random r word kind
  pub stays : (told : Told) (random : ℕ) (r : Request) (word kind : ℕ) →
      made m.next (call_of m.worth told random r) word ≡ word →
      holds (step m told random r word).request kind ≤ holds r kind
  pub lost : (told : Told) (r : Request) (kind : ℕ) → holds (lost_held told r) kind ≤ holds r kind

-- these moves gained what they used and what the request holds
abbrev pub IsHeld : Tokens → Holds → Request → List Move → Type 0
IsHeld o holds r moves = (kind : ℕ) → used_by o kind moves + holds r kind ≤ gained_by o kind moves

-- a call, if there is one, uses what these moves gained and did not use
abbrev pub MayMake : Tokens → Next → Option Call → List Move → Type 0
MayMake o next None moves = Unit {0}
MayMake o next (Some c) moves = MayCall o next c moves
