-- A breaker that somebody opens or closes by hand.
use Rattle.std.specs.Prelude.{◌≡◌, ℕ, ◌+◌, ◌%◌, ◌<◌, ◌≤◌, min, Some, None}
use Rattle.sched_limit_word.specs.declared.call.Call.TheVariants.{Admit, Draw, Failed, Succeeded}
use Rattle.sched_limit_word.specs.declared.call.Call.TheVariants.{OpenedByHand, ClosedByHand}
use Rattle.sched_limit.specs.Breaker.{breaker_next, breaker_refusal, since_start}
use Rattle.sched_limit.specs.Word.{generation_of, count_of, stamp_of}
use Rattle.sched_limit.specs.declared.breaker.Breaker.{Breaker}
use Rattle.sched_limit.specs.declared.refusal.Refusal.TheVariants.{Open}

-- a generation begins: what is told of a run that was admitted at the word before changes nothing
pub record BeginsAnew (b : Breaker) (before word : ℕ) : Type 0 where
  pub generation : generation_of word ≡ (generation_of before + 1) % 4096
  pub failures : (now : ℕ) → breaker_next b (Failed now (stamp_of before)) word ≡ word
  pub successes : (now worth : ℕ) → breaker_next b (Succeeded now (stamp_of before) worth) word ≡ word

-- what asks before this moment of the breaker's clock is refused, and changes nothing
pub record IsOpenUntil (b : Breaker) (until word : ℕ) : Type 0 where
  pub tripped : word % 2 ≡ 1
  pub admits : (now random before : ℕ) → since_start b now < since_start b until →
      (breaker_refusal b (Admit now random before) word
      ≡ Some (Open (min (b.start + since_start b until) 4611686018427387903)))
      × (breaker_next b (Admit now random before) word ≡ word)
  pub draws : (now cost slots : ℕ) → since_start b now < since_start b until →
      (breaker_refusal b (Draw now cost slots) word
      ≡ Some (Open (min (b.start + since_start b until) 4611686018427387903)))
      × (breaker_next b (Draw now cost slots) word ≡ word)
  -- from then on it admits a probe
  pub over : (now random before : ℕ) → since_start b until ≤ since_start b now →
      breaker_refusal b (Admit now random before) word ≡ None

-- it is closed, and has kept no result
pub record IsCleared (word : ℕ) : Type 0 where
  pub closed : word % 2 ≡ 0
  pub kept : count_of word ≡ 0

abbrev pub OpensByHand : Type 0
OpensByHand = (b : Breaker) (now until word : ℕ) →
    let left = breaker_next b (OpenedByHand now until) word in
    BeginsAnew b word left × IsOpenUntil b until left

abbrev pub ClosesByHand : Type 0
ClosesByHand = (b : Breaker) (now word : ℕ) →
    let left = breaker_next b (ClosedByHand now) word in
    BeginsAnew b word left × IsCleared left
