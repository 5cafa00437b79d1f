-- Each step keeps the rule.
use Rattle.std.proofs.Common.{◌≡◌, ◌≢◌, ℕ, ◌<◌, ◌==◌, List, ◌∷◌, length, set, slice_index, sym, refl, ap, ◌∙◌}
use Rattle.std.proofs.Common.{subst, inl, inr, ⊎_elim, arith, length-set}
use Rattle.std.proofs.lemmas.List.{get_or-set_same}
use mathlib.Core.Option.{Option, some}
use prog.Atomic.{either}
use lib.ListN.{get_elem?}
use Rattle.atomic_table.specs.Table.{Step, step, keeps, Allows}
use Rattle.atomic_table.proofs.Lists.{at_set, exchanged}
use Rattle.sched_ticket.specs.Lists.{total}
use Rattle.sched_ticket.specs.Parts.{all_parts}
use Rattle.sched_ticket.proofs.Sums.{total-set, term_le}
use Rattle.sched_limit_word.specs.View.{move, with_look, with_move, with_loss}
use Rattle.sched_limit_word.specs.Rule.{Next, IsRun, WasThere, moves_of, weights, Fits, IsKept}
use Rattle.sched_limit_word.specs.Steps.{Sat, looks, tries, learns}
use Rattle.sched_limit_word.specs.Tokens.{Tokens, IsOwned, MayCall}
use Rattle.sched_limit_word.specs.declared.call.Call.{Call}
use Rattle.sched_limit_word.specs.declared.view.Move.{Move}
use Rattle.sched_limit_word.specs.declared.view.View.{View}
use Rattle.sched_limit_word.proofs.Runs.{was_now}
use Rattle.sched_limit_word.proofs.Owned.{owns_set, owns_more, may_run, may_here}

module _ (next : Next) (first : ℕ) where
  -- the rule, where the word has become n
  abbrev kept-at : (ws : List ℕ) (homes : List (Option Call)) (views : List View) (n : ℕ) (run : List Move)
      → length ws ≡ 16 → IsRun next first run n
      → ((h : Move → ℕ) → total h run ≡ moves_of h views) → weights views ≡ all_parts
      → ((by : ℕ) (v : View) → get_elem? views by ≡ some v → Fits first run v)
      → IsKept next first (record { words = set ws 8 n; homes = homes; views = views })
  kept-at ws homes views n run long is_run shared parts each = record {
    run = run;
    long = length-set ws 8 n ∙ long;
    is_run = subst (IsRun next first run) (sym (get_or-set_same ws 8 n 0 (omega (arith, long)))) is_run;
    shared = shared;
    parts = parts;
    each = each;
  }

  -- a view fits a longer run
  pub Fits-on : (m : Move) (run : List Move) (v : View) → Fits first run v → Fits first (m ∷ run) v
  Fits-on m run v f = record { seen = λ live. inr (f.seen live); spent = f.spent }

  -- one view takes another's place
  each-set : (run run' : List Move) (views : List View) (j : ℕ) (w : View)
      → ((by : ℕ) (v : View) → get_elem? views by ≡ some v → Fits first run' v) → Fits first run' w
      → (by : ℕ) (v : View) → get_elem? (set views j w) by ≡ some v → Fits first run' v
  each-set run run' views j w each fits by v there = ⊎_elim
      (λ (t : (by ≡ j) × (w ≡ v)). subst (Fits first run') t.1 fits)
      (λ (t : (by ≢ j) × (get_elem? views by ≡ some v)). each by v t.1)
      (at_set views j by w v there)

  module _ (ws : List ℕ) (homes : List (Option Call)) (views : List View)
      (kept : IsKept next first (record { words = ws; homes = homes; views = views })) where
    -- a view with the same moves, which has seen the present word
    abbrev looked : (id : ℕ) (v w : View) → get_elem? views id ≡ some v → w.moves ≡ v.moves → w.weight ≡ v.weight
        → w.seen ≡ slice_index ws 8
        → IsKept next first (record { words = set ws 8 (slice_index ws 8); homes = homes; views = set views id w })
    looked id v w at moves weight seen =
        let n : ℕ = slice_index ws 8 in
        kept-at ws homes (set views id w) n kept.run kept.long kept.is_run
        (λ h. omega (
          arith,
          kept.shared h,
          total-set (λ (u : View). total h u.moves) views id v w at,
          ap (total h) moves,
        ))
        (omega (arith, kept.parts, total-set (λ (u : View). u.weight) views id v w at))
        (each-set kept.run kept.run views id w kept.each (record {
          seen = λ live. subst (WasThere first kept.run) (sym seen) (was_now next first kept.run n kept.is_run);
          spent = λ none. moves ∙ (kept.each id v at).spent (omega (arith, none));
        }))

    -- a view with one move more, from the present word
    abbrev moved : (id : ℕ) (v : View) (c : Call) (n : ℕ) → get_elem? views id ≡ some v → 0 < v.weight
        → n ≡ next c (slice_index ws 8)
        → IsKept next first
        (record { words = set ws 8 n; homes = homes; views = set views id (with_move v c (slice_index ws 8) n) })
    moved id v c n at live next-is =
        let d : ℕ = slice_index ws 8 in
        let m : Move = move c d n in
        let w : View = with_move v c d n in
        let run : List Move = m ∷ kept.run in
        kept-at ws homes (set views id w) n run kept.long (refl, next-is, kept.is_run)
        (λ h. omega (arith, kept.shared h, total-set (λ (u : View). total h u.moves) views id v w at))
        (omega (arith, kept.parts, total-set (λ (u : View). u.weight) views id v w at))
        (each-set kept.run run views id w (λ by u there. Fits-on m kept.run u (kept.each by u there)) (record {
          seen = λ _. inl refl;
          spent = λ none. absurd (omega (arith, none, live));
        }))

  module _ {o : Tokens} where
    pub looks_ok : (n id : ℕ) (m : Sat) (st : Step Call) → Allows (IsOwned o next first) n id m 8 (λ x. x) (looks st m)
    looks_ok n id m st s owned wide at fits =
        let w : View = with_look m.0 (slice_index s.words 8) in (
          w,
          keeps,
          tt,
          record {
            kept = looked s.words s.homes s.views owned.kept id m.0 w at refl refl refl;
            own = owned.own;
            owns = owns_set o s.views id w owned.owns (owned.owns id m.0 at);
          },
          refl,
        )

    pub learns_ok : (n id : ℕ) (m : Sat) (st : Step Call)
        → Allows (IsOwned o next first) n id m 8 (λ x. x) (learns st m)
    learns_ok n id m st s owned wide at fits =
        let kept = owned.kept in
        let few = term_le (λ (u : View). u.weight) s.views id m.0 at in (
          m.0,
          keeps,
          tt,
          record {
            kept = kept-at s.words s.homes (set s.views id m.0) (slice_index s.words 8) kept.run kept.long kept.is_run
                (λ h. omega (arith, kept.shared h, total-set (λ (u : View). total h u.moves) s.views id m.0 m.0 at))
                (omega (arith, kept.parts, total-set (λ (u : View). u.weight) s.views id m.0 m.0 at))
                (each-set kept.run kept.run s.views id m.0 kept.each (kept.each id m.0 at));
            own = owned.own;
            owns = owns_set o s.views id m.0 owned.owns (owned.owns id m.0 at);
          },
          (refl, omega (arith, few, kept.parts)),
        )

    pub tries_ok : (n id : ℕ) (m : Sat) (old new : ℕ) (c : Call) → 0 < m.0.weight → new ≡ next c old
        → MayCall o next c m.0.moves
        → Allows (IsOwned o next first) n id m 8 (λ x. either (x == old) new x) (tries (step n 8 old new (some c)) m)
    tries_ok n id m old new c live next-is may s owned wide at fits =
        let v : View = m.0 in
        let d : ℕ = slice_index s.words 8 in
        let kept = owned.kept in
        let st : Step Call = step n 8 old new (some c) in
        let F : ℕ → Type 0 = λ y. (w : View)
        × IsOwned o next first (record { words = set s.words 8 y; homes = s.homes; views = set s.views id w })
        × tries st m d (w, m.1) in
        let there : F (either (d == old) new d) = exchanged d old new F
        (λ hit. (
          with_move v c d new,
          record {
            kept = moved s.words s.homes s.views kept id v c new at live (next-is ∙ ap (next c) (sym hit));
            own = (
              may_run o s.views id v kept.run kept.shared owned.owns at (move c d new)
                  (may_here o next c v.moves d old new hit next-is may),
              owned.own,
            );
            owns = owns_set o s.views id (with_move v c d new) owned.owns
                (owns_more o (move c d new) v.moves (may_here o next c v.moves d old new hit next-is may)
                (owned.owns id v at));
          },
          ((λ _. refl), λ miss. absurd (miss hit)),
        ))
        (λ miss. (
          with_loss v d,
          record {
            kept = looked s.words s.homes s.views kept id v (with_loss v d) at refl refl refl;
            own = owned.own;
            owns = owns_set o s.views id (with_loss v d) owned.owns (owned.owns id v at);
          },
          ((λ hit. absurd (miss hit)), λ _. refl),
        )) in
        (there.0, keeps, tt, there.1, there.2)
