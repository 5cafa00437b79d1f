-- The calls of all requests on a word that a store keeps are one run of its machine, and what each call keeps holds.
use Rattle.std.proofs.Common.{◌≡◌, ℕ, ◌+◌, ◌≤◌, Bool, true, List, [], ◌∷◌, refl, arith, leb, leb-true}
use Rattle.std.specs.Prelude.{Option, None, Some}
use Rattle.sched_limit_word.specs.Rule.{IsRun}
use Rattle.sched_limit_word.specs.Laws.{IsKeptBy}
use Rattle.sched_limit_word.specs.declared.call.Call.{Call}
use Rattle.sched_limit_word.specs.declared.view.Move.{Move}
use Rattle.sched_limit.specs.Step.{Rules, call_of, made}
use Rattle.sched_limit.specs.Kinds.{bucket_rules, breaker_rules}
use Rattle.sched_limit.specs.Laws.{has_few_probes}
use Rattle.sched_limit.specs.declared.bucket.Bucket.{Bucket}
use Rattle.sched_limit.proofs.Buckets.{kept_within, balanced}
use Rattle.sched_limit.proofs.Breakers.{kept_few}
use Rattle.sched_limit_kept.specs.Laws.{Tellings, KeptIsOneRun, TokensAreKept, ProbesAreKept, moved, moves_made}
use Rattle.sched_limit_kept.specs.Laws.{word_kept, granted_by, debited_by, credited_by}

-- one call more, if there is one, goes on with a run
goes_on : (m : Rules) (first : ℕ) (c : Option Call) (moves : List Move) (word : ℕ) → IsRun m.next first moves word
    → IsRun m.next first (moved m c word moves) (made m.next c word)
goes_on m first None moves word run = run
goes_on m first (Some c) moves word run = (refl, refl, run)

pub kept_is_one_run : KeptIsOneRun
kept_is_one_run m first [] = refl
kept_is_one_run m first (t ∷ ts) = goes_on m first (call_of m.worth t.told t.random t.holds) (moves_made m first ts)
    (word_kept m first ts) (kept_is_one_run m first ts)

-- what is true of the first word, and kept by each call, is true of the word that the store has
module _ (m : Rules) (first : ℕ) (Q : ℕ → Bool) (keeps : IsKeptBy m.next first Q) where
  made_keeps : (c : Option Call) (word : ℕ) → Q word ≡ true → Q (made m.next c word) ≡ true
  made_keeps None word is = is
  made_keeps (Some c) word is = keeps.1 c word is

  holds_still : (ts : Tellings) → Q (word_kept m first ts) ≡ true
  holds_still [] = keeps.0
  holds_still (t ∷ ts) = made_keeps (call_of m.worth t.told t.random t.holds) (word_kept m first ts) (holds_still ts)

module _ (b : Bucket) where
  within : (ts : Tellings) → word_kept (bucket_rules b) b.capacity ts ≤ b.capacity
  within ts = leb-true (word_kept (bucket_rules b) b.capacity ts) b.capacity
      (holds_still (bucket_rules b) b.capacity (λ (w : ℕ). leb w b.capacity) (kept_within b) ts)

  -- one call more, if there is one, keeps the balance
  balances : (c : Option Call) (word : ℕ) (moves : List Move) → word ≤ b.capacity
      → word + granted_by moves + debited_by moves ≡ b.capacity + credited_by moves
      → let after = moved (bucket_rules b) c word moves in
      made (bucket_rules b).next c word + granted_by after + debited_by after ≡ b.capacity + credited_by after
  balances None word moves le so = so
  balances (Some c) word moves le so = omega (arith, so, balanced b c word le)

  counted : (ts : Tellings) → let moves = moves_made (bucket_rules b) b.capacity ts in
      word_kept (bucket_rules b) b.capacity ts + granted_by moves + debited_by moves ≡ b.capacity + credited_by moves
  counted [] = omega arith
  counted (t ∷ ts) = balances (call_of (bucket_rules b).worth t.told t.random t.holds)
      (word_kept (bucket_rules b) b.capacity ts) (moves_made (bucket_rules b) b.capacity ts) (within ts) (counted ts)

pub tokens_are_kept : TokensAreKept
tokens_are_kept b ts = (within b ts, counted b ts)

pub probes_are_kept : ProbesAreKept
probes_are_kept b ts = holds_still (breaker_rules b) 0 (has_few_probes b) (kept_few b) ts
