-- What holds of a word that a store keeps, whatever requests tell of it, and wherever they stop.
use Rattle.std.specs.Prelude.{◌≡◌, ℕ, ◌+◌, ◌≤◌, List, [], ◌∷◌, Option, Some, None, true}
use Rattle.sched_ticket.specs.Lists.{total}
use Rattle.sched_limit_word.specs.Rule.{IsRun}
use Rattle.sched_limit_word.specs.View.{move}
use Rattle.sched_limit_word.specs.declared.call.Call.{Call}
use Rattle.sched_limit_word.specs.declared.view.Move.{Move}
use Rattle.sched_limit.specs.Step.{Rules, call_of, step}
use Rattle.sched_limit.specs.Kinds.{bucket_rules, breaker_rules}
use Rattle.sched_limit.specs.Laws.{granted, debited, credited, has_few_probes}
use Rattle.sched_limit.specs.declared.bucket.Bucket.{Bucket}
use Rattle.sched_limit.specs.declared.breaker.Breaker.{Breaker}
use Rattle.sched_limit.specs.declared.request.Request.{Request}
use Rattle.sched_limit.specs.declared.request.Told.{Told}

-- what a request tells, with what it holds and a random word
pub record Telling : Type 0 where
  pub holds : Request
  pub told : Told
  pub random : ℕ

-- what requests tell, the latest first
abbrev pub Tellings : Type 0
Tellings = List Telling

-- the word that a store has after them, which was `first` before
abbrev pub word_kept : Rules → ℕ → Tellings → ℕ
word_kept m first [] = first
word_kept m first (t ∷ ts) = (step m t.told t.random t.holds (word_kept m first ts)).word

-- what a call, if there is one, moved
abbrev pub moved : Rules → Option Call → ℕ → List Move → List Move
moved m None word moves = moves
moved m (Some c) word moves = move c word (m.next c word) ∷ moves

-- the moves that they made
abbrev pub moves_made : Rules → ℕ → Tellings → List Move
moves_made m first [] = []
moves_made m first (t ∷ ts) =
    moved m (call_of m.worth t.told t.random t.holds) (word_kept m first ts) (moves_made m first ts)

-- they are one run of the machine: each call found the word that the one before left, and left what it makes of it
abbrev pub KeptIsOneRun : Type 0
KeptIsOneRun = (m : Rules) (first : ℕ) (ts : Tellings) →
    IsRun m.next first (moves_made m first ts) (word_kept m first ts)

-- what moves of a bucket granted, took for failures, and gave
abbrev pub granted_by : List Move → ℕ
granted_by moves = total (λ (m : Move). granted m.call m.found m.left) moves

abbrev pub debited_by : List Move → ℕ
debited_by moves = total (λ (m : Move). debited m.call m.found m.left) moves

abbrev pub credited_by : List Move → ℕ
credited_by moves = total (λ (m : Move). credited m.call m.found m.left) moves

-- the level of a bucket that began full is at most its capacity; it and what was granted and debited is the capacity
-- and what was credited
abbrev pub TokensAreKept : Type 0
TokensAreKept = (b : Bucket) (ts : Tellings) →
    let level = word_kept (bucket_rules b) b.capacity ts in
    let moves = moves_made (bucket_rules b) b.capacity ts in
    (level ≤ b.capacity) × (level + granted_by moves + debited_by moves ≡ b.capacity + credited_by moves)

-- the word of a breaker that began closed and is tripped counts no more probes than it admits
abbrev pub ProbesAreKept : Type 0
ProbesAreKept = (b : Breaker) (ts : Tellings) → has_few_probes b (word_kept (breaker_rules b) 0 ts) ≡ true
