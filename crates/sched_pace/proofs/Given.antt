-- What a pass gives back, it took: it holds the token of its last take.
use Rattle.std.proofs.Common.{◌≡◌, ℕ, ◌+◌, ◌-◌, ◌<◌, ◌≤◌, ◌==◌, ◌&&◌, Bool}
use Rattle.std.proofs.Common.{true, false, cond, List, ◌∷◌, refl, sym, ap, subst, arith}
use Rattle.std.specs.Prelude.{Option, Some, None}
use Rattle.std.proofs.lemmas.Bool.{eqb-true}
use Rattle.sched_ticket.specs.Lists.{is}
use Rattle.sched_limit_word.specs.Calls.{Called}
use Rattle.sched_limit_word.specs.Tokens.{MayCall, gained_by, used_by}
use Rattle.sched_limit_word.specs.View.{move, moves_after}
use Rattle.sched_limit_word.specs.declared.call.Call.{Call}
use Rattle.sched_limit_word.specs.declared.call.Call.TheVariants.{Draw, Returned}
use Rattle.sched_limit_word.specs.declared.view.Move.{Move}
use Rattle.sched_limit_word.specs.declared.view.View.{View}
use Rattle.sched_pace.specs.Held.{HoldsLast}
use Rattle.sched_pace.specs.Pace.{is_cost, is_near, begins_at, due_after, took, pace_next}
use Rattle.sched_pace.specs.Step.{last_of}
use Rattle.sched_pace.specs.Tokens.{name, gains, uses, pace_tokens}
use Rattle.sched_pace.specs.declared.pace.Pace.{Pace}
use Rattle.sched_pace.specs.declared.step.Last.{Last}
use Rattle.sched_pace.specs.declared.taken.Taken.TheVariants.{Granted, TooSoon, NoCost}
use Rattle.sched_pace.proofs.Cases.{cases, costs}
use Rattle.sched_pace.proofs.Numbers.{uses_some}

module _ (p : Pace) where
  abbrev used : ℕ → List Move → ℕ
  used kind moves = used_by (pace_tokens p) kind moves

  abbrev gained : ℕ → List Move → ℕ
  gained kind moves = gained_by (pace_tokens p) kind moves

  pub may_take : (now cost : ℕ) (moves : List Move) → MayCall (pace_tokens p) (pace_next p) (Draw now cost 0) moves
  may_take now cost moves word kind some = absurd (omega (arith, some))

  uses_le : (cost mark found left kind : ℕ) → uses (Returned cost mark) kind found left ≤ is kind (name cost mark)
  uses_le cost mark found left kind =
      cases (λ (b : Bool). cond b 0 (is kind (name cost mark)) ≤ is kind (name cost mark)) (left == found)
      (λ _. omega arith) (λ _. omega arith)

  pub may_back : (l : Last) (moves : List Move) → HoldsLast p (Some l) moves
      → MayCall (pace_tokens p) (pace_next p) (Returned l.cost l.mark) moves
  may_back l moves has word kind some =
      omega (arith, uses_le l.cost l.mark word (pace_next p (Returned l.cost l.mark) word) kind, has kind)

  pub holds_none : (last : Option Last) (moves : List Move) → HoldsLast p last moves → HoldsLast p None moves
  holds_none last moves has kind = omega (arith, has kind)

  gains_one : (now cost found left kind : ℕ) → (left == found) ≡ false
      → gains (Draw now cost 0) kind found left ≡ is kind (name cost left)
  gains_one now cost found left kind other = ap (λ (b : Bool). cond b 0 (is kind (name cost left))) other

  -- a take that leaves the word as it is
  stays_holds : (now cost word : ℕ) (moves : List Move) → HoldsLast p None moves
      → HoldsLast p None (moves_after moves (Draw now cost 0) word word)
  stays_holds now cost word moves has kind =
      cases (λ (t : Bool). used kind (cond t moves (move (Draw now cost 0) word word ∷ moves)) + 0
      ≤ gained kind (cond t moves (move (Draw now cost 0) word word ∷ moves)))
      (word == word) (λ _. has kind) (λ _. omega (arith, has kind))

  -- after a take, whether it is granted or not
  took_holds : (now cost word x y z : ℕ) (moves : List Move) (a b : Bool)
      → (a ≡ true → b ≡ true → word < y) → HoldsLast p None moves
      → HoldsLast p (last_of cost (cond a (cond b (Granted x y) (TooSoon z)) NoCost))
      (moves_after moves (Draw now cost 0) word (cond (a && b) y word))
  took_holds now cost word x y z moves true true more has kind =
      cases (λ (t : Bool). used kind (cond t moves (move (Draw now cost 0) word y ∷ moves)) + is kind (name cost y)
      ≤ gained kind (cond t moves (move (Draw now cost 0) word y ∷ moves)))
      (y == word)
      (λ same. absurd (omega (arith, eqb-true y word same, more refl refl)))
      (λ other. omega (arith, has kind, gains_one now cost word y kind other))
  took_holds now cost word x y z moves true false more has kind = stays_holds now cost word moves has kind
  took_holds now cost word x y z moves false b more has kind = stays_holds now cost word moves has kind

  pub takes_hold : (now cost word : ℕ) (last : Option Last) (v u : View) → HoldsLast p last v.moves
      → Called (pace_next p) (Draw now cost 0) word v u
      → HoldsLast p (last_of cost (took p now cost word)) u.moves
  takes_hold now cost word last v u has called =
      subst (λ (ms : List Move). HoldsLast p (last_of cost (took p now cost word)) ms) (sym called.moves)
      (took_holds now cost word (begins_at p now cost word) (due_after p now cost word)
      (begins_at p now cost word - p.longest) v.moves (is_cost p cost) (is_near p now cost word)
      (λ a b. omega (arith, uses_some cost p.each (costs p cost a).0 p.is_each.0))
      (holds_none last v.moves has))

  pub gives_hold : (l : Last) (word : ℕ) (v u : View) → HoldsLast p (Some l) v.moves
      → Called (pace_next p) (Returned l.cost l.mark) word v u → HoldsLast p None u.moves
  gives_hold l word v u has called =
      let c : Call = Returned l.cost l.mark in
      let left : ℕ = pace_next p c word in
      subst (λ (ms : List Move). HoldsLast p None ms) (sym called.moves)
      (λ kind.
      cases (λ (t : Bool). used kind (cond t v.moves (move c word left ∷ v.moves)) + 0
      ≤ gained kind (cond t v.moves (move c word left ∷ v.moves)))
      (left == word)
      (λ _. omega (arith, has kind))
      (λ _. omega (arith, has kind, uses_le l.cost l.mark word left kind)))
