-- A look at a word is each call that leaves this word as it is.
use Rattle.std.proofs.Common.{◌≡◌, ℕ, Bool, List, ◌∷◌, cond, sym, refl, ap, eq-eqb}
use Rattle.sched_limit_word.specs.View.{move, moves_after}
use Rattle.sched_limit_word.specs.Looks.{LooksAreCalls}
use Rattle.sched_limit_word.specs.declared.call.Call.{Call}
use Rattle.sched_limit_word.specs.declared.view.Move.{Move}

same_moves : (moves : List Move) (c : Call) (found left : ℕ) → left ≡ found → moves_after moves c found left ≡ moves
same_moves moves c found left e =
    ap (λ (b : Bool). cond b moves (move c found left ∷ moves)) (eq-eqb left found e)

pub looks_are_calls : LooksAreCalls
looks_are_calls next c word v e = record {
  moves = sym (same_moves v.moves c word (next c word) e);
  seen = sym e;
  looked = refl;
  same = refl;
}
