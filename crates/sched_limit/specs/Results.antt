-- The results of the runs of one generation, the latest first, of which a failure is true: what a closed breaker keeps
-- of them, and when it opens.
use Rattle.std.specs.Prelude.{◌≡◌, ℕ, ◌+◌, ◌*◌, ◌%◌, ◌==◌, ◌&&◌, Bool, true, false, if◌then◌else◌, nat_le}
use Rattle.std.specs.Prelude.{List, [], ◌∷◌, take}
use Rattle.sched_limit_word.specs.declared.call.Call.{Call}
use Rattle.sched_limit_word.specs.declared.call.Call.TheVariants.{Failed, Succeeded, OpenedByHand, ClosedByHand}
use Rattle.sched_limit.specs.Breaker.{breaker_next}
use Rattle.sched_limit.specs.Word.{count_of, stamp_of}
use Rattle.sched_limit.specs.declared.breaker.Breaker.{Breaker}

-- one breaker is another, but that its failures count among so many of the last results
pub record IsByResults (a : Breaker) (results : ℕ) (b : Breaker) : Type 0 where
  pub results_are : b.results ≡ results
  pub failures : b.failures ≡ a.failures
  pub probes : b.probes ≡ a.probes
  pub deadline : b.deadline ≡ a.deadline
  pub start : b.start ≡ a.start
  pub times : b.times ≡ a.times
  pub last : b.last ≡ a.last

-- how many failures there are among these, and how many in a row, up to the latest
abbrev pub failures_among : List Bool → ℕ
failures_among [] = 0
failures_among (failed ∷ results) = failures_among results + (if failed then 1 else 0)

abbrev pub failures_in_row : List Bool → ℕ
failures_in_row [] = 0
failures_in_row (failed ∷ results) = if failed then failures_in_row results + 1 else 0

-- the failures that count: those in a row, or those among the last results
abbrev pub failures_of : Breaker → List Bool → ℕ
failures_of b results =
    if b.results == 0 then failures_in_row results else failures_among (take b.results results)

-- results as a number: the latest is the lowest bit
abbrev pub bits : List Bool → ℕ
bits [] = 0
bits (failed ∷ results) = 2 * bits results + (if failed then 1 else 0)

-- what a closed breaker keeps of them
abbrev pub kept_of : Breaker → List Bool → ℕ
kept_of b results = if b.results == 0 then failures_in_row results else bits (take b.results results)

-- what calls make of a breaker's first word, the latest call first
abbrev pub after : Breaker → List Call → ℕ
after b [] = 0
after b (c ∷ calls) = breaker_next b c (after b calls)

-- the results of a closed breaker's generation after one more call: that of a run of this generation comes to them, and
-- a generation that somebody begins by hand has none
abbrev pub heard : Call → ℕ → List Bool → List Bool
heard (Failed now generation) word results = if generation == stamp_of word then true ∷ results else results
heard (Succeeded now generation worth) word results =
    if generation == stamp_of word then false ∷ results else results
heard (OpenedByHand now until) word results = []
heard (ClosedByHand now) word results = []
heard c word results = results

-- those of the generation that these calls left: one that a tripped breaker begins has none
abbrev pub results_in : Breaker → List Call → List Bool
results_in b [] = []
results_in b (c ∷ calls) = if after b calls % 2 == 1 then [] else heard c (after b calls) (results_in b calls)

-- whatever calls came, a closed breaker keeps the last results of its generation, and nothing else
abbrev pub KeepsTheLast : Type 0
KeepsTheLast = (b : Breaker) (calls : List Call) → after b calls % 2 ≡ 0 →
    count_of (after b calls) ≡ kept_of b (results_in b calls)

-- a call opens a closed breaker, after these results of its generation
abbrev pub opens_at : Breaker → Call → ℕ → List Bool → Bool
opens_at b (Failed now generation) word results =
    (generation == stamp_of word) && nat_le b.failures (failures_of b (true ∷ results))
opens_at b (OpenedByHand now until) word results = true
opens_at b c word results = false

-- Whatever calls came, a closed breaker is opened by a failure of its generation that makes so many, or by hand: not
-- earlier, and not later.
abbrev pub OpensExactly : Type 0
OpensExactly = (b : Breaker) (calls : List Call) (c : Call) → after b calls % 2 ≡ 0 →
    (after b (c ∷ calls) % 2 == 1) ≡ opens_at b c (after b calls) (results_in b calls)

-- so many failures among as many results are so many in a row: a breaker by as many results opens at the same ones
abbrev pub AllAreInRow : Type 0
AllAreInRow = (a b : Breaker) → a.results ≡ 0 → IsByResults a a.failures b → (results : List Bool) →
    nat_le b.failures (failures_of b results) ≡ nat_le a.failures (failures_of a results)
