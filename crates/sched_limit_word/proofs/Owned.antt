-- What passes own of a limit's tokens, as their moves change.
use Rattle.std.proofs.Common.{◌≡◌, ◌≢◌, ℕ, zero, suc, ◌+◌, ◌<◌, ◌≤◌, List, [], ◌∷◌, ◌++◌, set, sym, subst}
use Rattle.std.proofs.Common.{⊎_elim, arith}
use mathlib.Core.Option.{some}
use lib.ListN.{get_elem?}
use Rattle.atomic_table.proofs.Lists.{at_set}
use Rattle.sched_ticket.specs.Lists.{total}
use Rattle.sched_ticket.proofs.Sums.{total-append, rest_le}
use Rattle.sched_limit_word.specs.View.{move}
use Rattle.sched_limit_word.specs.Rule.{Next, moves_of}
use Rattle.sched_limit_word.specs.Tokens.{Tokens, MayMove, MayCall, Owns, gained_by, used_by}
use Rattle.sched_limit_word.specs.declared.call.Call.{Call}
use Rattle.sched_limit_word.specs.declared.view.Move.{Move}
use Rattle.sched_limit_word.specs.declared.view.View.{View}

-- one item of two took another's place, and the other is where it was
pub at_other : (views : List View) (id other : ℕ) (both w : View) → ¬ (other ≡ id)
    → get_elem? (set views id both) other ≡ some w → get_elem? views other ≡ some w
at_other views id other both w apart there = ⊎_elim
    (λ (t : (other ≡ id) × (both ≡ w)). absurd (apart t.0))
    (λ (t : (other ≢ id) × (get_elem? views other ≡ some w)). t.1)
    (at_set views id other both w there)

-- one more move uses what is left, or nothing
more_le : (u t g h : ℕ) → (0 < u → u + t ≤ g) → t ≤ g → u + t ≤ h + g
more_le zero t g h may le = omega (arith, le)
more_le (suc u) t g h may le = omega (arith, may (omega arith))

-- a call may be made on the same machine, with the same moves
pub may_of : {M : Type 0} (tokens : M → Tokens) (next : M → Next) (c : Call) (x y : M) → x ≡ y
    → (moves same : List Move) → moves ≡ same → MayCall (tokens y) (next y) c same → MayCall (tokens x) (next x) c moves
may_of {M} tokens next c x y is moves same e may =
    subst (λ (ms : List Move). MayCall (tokens x) (next x) c ms) (sym e)
    (subst (λ (m : M). MayCall (tokens m) (next m) c same) (sym is) may)

module _ (o : Tokens) where
  pub owns_none : Owns o []
  owns_none kind = omega arith

  pub owns_both : (xs ys : List Move) → Owns o xs → Owns o ys → Owns o (xs ++ ys)
  owns_both xs ys these those kind = omega (
    arith,
    total-append (λ (m : Move). o.used m kind) xs ys,
    total-append (λ (m : Move). o.gained m kind) xs ys,
    these kind,
    those kind,
  )

  pub owns_more : (m : Move) (moves : List Move) → MayMove o m moves → Owns o moves → Owns o (m ∷ moves)
  owns_more m moves may owns kind =
      more_le (o.used m kind) (used_by o kind moves) (gained_by o kind moves) (o.gained m kind) (may kind) (owns kind)

  -- one view takes another's place
  pub owns_set : (views : List View) (id : ℕ) (w : View)
      → ((by : ℕ) (v : View) → get_elem? views by ≡ some v → Owns o v.moves) → Owns o w.moves
      → (by : ℕ) (v : View) → get_elem? (set views id w) by ≡ some v → Owns o v.moves
  owns_set views id w each fits by v there = ⊎_elim
      (λ (t : (by ≡ id) × (w ≡ v)). subst (λ (u : View). Owns o u.moves) t.1 fits)
      (λ (t : (by ≢ id) × (get_elem? views by ≡ some v)). each by v t.1)
      (at_set views id by w v there)

  -- a move of the word that was found
  pub may_here : (next : Next) (c : Call) (moves : List Move) (d old new : ℕ) → d ≡ old → new ≡ next c old
      → MayCall o next c moves → MayMove o (move c d new) moves
  may_here next c moves d old new hit next-is may =
      subst (λ (x : ℕ). MayMove o (move c x new) moves) (sym hit)
      (subst (λ (y : ℕ). MayMove o (move c old y) moves) (sym next-is) (may old))

  -- what one pass may use, the run of all passes has
  pub may_run : (views : List View) (id : ℕ) (v : View) (run : List Move)
      → ((h : Move → ℕ) → total h run ≡ moves_of h views)
      → ((by : ℕ) (u : View) → get_elem? views by ≡ some u → Owns o u.moves) → get_elem? views id ≡ some v
      → (m : Move) → MayMove o m v.moves → MayMove o m run
  may_run views id v run shared owns at m may kind uses = omega (
    arith,
    may kind uses,
    rest_le (λ (u : View). used_by o kind u.moves) (λ (u : View). gained_by o kind u.moves) views id v
        (λ i u there. owns i u there kind) at,
    shared (λ (n : Move). o.used n kind),
    shared (λ (n : Move). o.gained n kind),
  )
