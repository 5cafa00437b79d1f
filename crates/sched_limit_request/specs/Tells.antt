-- What a request asks or tells, with a pass of a limit that threads share.
use Rattle.std.specs.Prelude.{◌≡◌, ◌⊎◌, ℕ, Option, Some, None}
use Rattle.sched_limit_word.specs.Rule.{Next}
use Rattle.sched_limit_word.specs.Calls.{Called, LostRaces}
use Rattle.sched_limit_word.specs.declared.call.Call.{Call}
use Rattle.sched_limit_word.specs.declared.view.View.{View}
use Rattle.sched_limit.specs.Step.{Answer, Rules, call_of, step, tries_of, lost_answer, lost_held}
use Rattle.sched_limit.specs.declared.request.Request.{Request}
use Rattle.sched_limit.specs.declared.request.Told.{Told}

-- a call, if there is one, found this word
abbrev pub Makes : Next → Option Call → ℕ → View → View → Type 0
Makes next None word v u = u ≡ v
Makes next (Some c) word v u = Called next c word v u

-- a call lost so many races
abbrev pub Misses : Option Call → ℕ → View → View → Type 0
Misses None tries v u = ⊥
Misses (Some c) tries v u = LostRaces tries v u

-- within the call there was a moment at which the word was this one, and the step on it was taken
pub record Stepped (m : Rules) (told : Told) (random : ℕ) (r : Request) (answer : Answer) (q : Request) (v u : View)
    : Type 0 where
  pub word : ℕ
  pub makes : Makes m.next (call_of m.worth told random r) word v u
  pub answers : answer ≡ (step m told random r word).answer
  pub holds : q ≡ (step m told random r word).request

-- other calls came first at each try, and nothing has changed
pub record Missed (m : Rules) (told : Told) (random : ℕ) (r : Request) (answer : Answer) (q : Request) (v u : View)
    : Type 0 where
  pub misses : Misses (call_of m.worth told random r) (tries_of told) v u
  pub answers : answer ≡ lost_answer told
  pub holds : q ≡ lost_held told r

-- what a request that held r tells, what it is answered, and that it then holds q
pub record IsTold (m : Rules) (told : Told) (random : ℕ) (r : Request) (answer : Answer) (q : Request) (v u : View)
    : Type 0 where
  pub how : Stepped m told random r answer q v u ⊎ Missed m told random r answer q v u
