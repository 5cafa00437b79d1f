-- What a step makes of a pace's word that a store keeps, and of what gives the last take back, as C keeps them.
use Rattle.std.specs.Prelude.{◌≡◌, ℕ, Bool, true, if◌then◌else◌, Option, Some, None}
use Rattle.sched_limit_word.specs.declared.call.Call.TheVariants.{Draw}
use Rattle.sched_pace.specs.Pace.{took, pace_next}
use Rattle.sched_pace.specs.Step.{answer_of, last_of, call_back, made, comes_back}
use Rattle.sched_pace.specs.declared.pace.Pace.{Pace}
use Rattle.sched_pace.specs.declared.step.Last.{Last}
use Rattle.sched_handle.specs.Status.{code_of}
use Rattle.sched_handle.specs.declared.status.Status.{Status}
use Rattle.hikebox_c.specs.Kept.{word_in}
use Rattle.hikebox_c.specs.Paces.{IsPaceOf, TellsTake}
use Rattle.hikebox_c.specs.declared.kept.KeptGiven.{KeptGiven}
use Rattle.hikebox_c.specs.declared.paces_kept.MarkGiven.{MarkGiven}
use Rattle.hikebox_c.specs.declared.paces_kept.RateGiven.{RateGiven}

-- what gives the last take back, if there is one
abbrev pub last_in : MarkGiven → Option Last
last_in m = if m.granted then Some (record { cost = m.cost; mark = m.due }) else None

-- what a take finds and leaves: what the store keeps, what gives the last take back, and the moment that is told
abbrev pub Found : Type 0
Found = KeptGiven × MarkGiven × ℕ

-- one that is refused for this reason moves nothing
abbrev pub IsUntaken : Status → ℕ → Found → Found → Type 0
IsUntaken why code found left = (code ≡ code_of why) × (left ≡ found)

-- a step of this pace
pub record Took (p : Pace) (now cost code : ℕ) (found left : Found) : Type 0 where
  pub known : left.0.known ≡ true
  pub word : left.0.word ≡ pace_next p (Draw now cost 0) (word_in 0 found.0)
  pub last : last_in left.1 ≡ last_of cost (took p now cost (word_in 0 found.0))
  pub told_as : TellsTake code found.2 left.2 (answer_of (took p now cost (word_in 0 found.0)))

abbrev pub StepsTake : RateGiven → ℕ → ℕ → ℕ → Found → Found → Type 0
StepsTake t now cost code found left =
    (p : Pace) × IsPaceOf t.each t.burst t.longest p × Took p now cost code found left

-- the same of a take that is given back, and whether it has come back
abbrev pub Held : Type 0
Held = KeptGiven × MarkGiven

abbrev pub Left : Type 0
Left = KeptGiven × MarkGiven × Bool

abbrev pub IsUngiven : Status → ℕ → Left → Left → Type 0
IsUngiven why code found left = (code ≡ code_of why) × (left ≡ found)

pub record Gave (p : Pace) (found : Held) (left : Left) : Type 0 where
  pub known : left.0.known ≡ true
  pub word : left.0.word ≡ made p (call_back (last_in found.1)) (word_in 0 found.0)
  pub last : last_in left.1 ≡ None
  pub given : left.2 ≡ comes_back p (last_in found.1) (word_in 0 found.0)

abbrev pub StepsBack : RateGiven → ℕ → Held → Left → Type 0
StepsBack t code found left =
    (p : Pace) × IsPaceOf t.each t.burst t.longest p × Gave p found left × (code ≡ 0)
