-- A split, a join and the first state keep the rule.
use Rattle.std.proofs.Common.{◌≡◌, ◌≢◌, ℕ, zero, suc, ◌+◌, ◌<◌, List, [], ◌∷◌, ◌++◌, length, set, slice_index, sym}
use Rattle.std.proofs.Common.{refl, subst, ⊎_elim, arith}
use mathlib.Core.Option.{Option, some, some-injective, some-ne-none}
use lib.ListN.{get_elem?}
use Rattle.atomic_table.specs.Table.{Splits, Joins}
use Rattle.atomic_table.proofs.Lists.{at_set, at_snoc}
use Rattle.sched_ticket.specs.Lists.{total}
use Rattle.sched_ticket.proofs.Sums.{total-append, total-set, each-only, each-split, each-joined}
use Rattle.sched_ticket.proofs.Ways.{part-some}
use Rattle.sched_limit_word.specs.View.{first_view, without_part, part_of, joined_view, blank_view}
use Rattle.sched_limit_word.specs.Rule.{Next, Fits, IsKept}
use Rattle.sched_limit_word.specs.Tokens.{Tokens, Owns, IsOwned}
use Rattle.sched_limit_word.specs.declared.call.Call.{Call}
use Rattle.sched_limit_word.specs.declared.view.View.{View}
use Rattle.sched_limit_word.proofs.Owned.{owns_none, owns_both, at_other}

module _ (next : Next) (first : ℕ) where
  abbrev splits_kept : (id : ℕ) (v : View) → 1 < v.weight → Splits (IsKept next first) id v (without_part v) (part_of v)
  splits_kept id v more s kept at =
      let views : List View = s.views in
      let f = kept.each id v at in
      let left : View = without_part v in
      let right : View = part_of v in
      let after : List View = set views id left ++ right ∷ [] in
      let p = part-some v.weight more in
      let F : View → Type 0 = Fits first kept.run in
      let sums : (g : View → ℕ) → total g after + g v ≡ total g views + g left + g right = λ g.
      omega (arith, total-append g (set views id left) (right ∷ []), total-set g views id v left at) in
      let fits-left : F left = record {
        seen = λ _. f.seen (omega (arith, more));
        spent = λ none. absurd (omega (arith, none, p.1));
      } in
      let fits-right : F right = record { seen = λ _. f.seen (omega (arith, more)); spent = λ _. refl } in
      record {
        run = kept.run;
        long = kept.long;
        is_run = kept.is_run;
        shared = λ h. omega (arith, sums (λ (u : View). total h u.moves), kept.shared h);
        parts = omega (arith, sums (λ (u : View). u.weight), kept.parts, p.1);
        each = λ by u there. ⊎_elim
            (λ (t : get_elem? (set views id left) by ≡ some u). ⊎_elim
            (λ (e : (by ≡ id) × (left ≡ u)). subst F e.1 fits-left)
            (λ (e : (by ≢ id) × (get_elem? views by ≡ some u)). kept.each by u e.1)
            (at_set views id by left u t))
            (λ (e : right ≡ u). subst F e fits-right)
            (at_snoc (set views id left) right u by there);
      }

  abbrev joins_kept : (id : ℕ) (v : View) (other : ℕ) (w : View) → 0 < v.weight
      → Joins (IsKept next first) id v other w (joined_view v w) blank_view
  joins_kept id v other w live s kept at apart there =
      let views : List View = s.views in
      let f = kept.each id v at in
      let joined : View = joined_view v w in
      let middle : List View = set views id joined in
      let after : List View = set middle other blank_view in
      let F : View → Type 0 = Fits first kept.run in
      let sums : (g : View → ℕ) → total g after + g w + g v ≡ total g views + g joined + g blank_view = λ g.
      omega (arith, total-set g views id v joined at, total-set g middle other w blank_view there) in
      let fits-joined : F joined = record {
        seen = λ _. f.seen live;
        spent = λ none. absurd (omega (arith, none, live));
      } in
      let fits-blank : F blank_view = record { seen = λ none. absurd (omega (arith, none)); spent = λ _. refl } in
      record {
        run = kept.run;
        long = kept.long;
        is_run = kept.is_run;
        shared = λ h.
            omega (arith, sums (λ (u : View). total h u.moves), total-append h v.moves w.moves, kept.shared h);
        parts = omega (arith, sums (λ (u : View). u.weight), kept.parts);
        each = λ by u at-by. ⊎_elim
            (λ (e : (by ≡ other) × (blank_view ≡ u)). subst F e.1 fits-blank)
            (λ (e : (by ≢ other) × (get_elem? middle by ≡ some u)). ⊎_elim
            (λ (t : (by ≡ id) × (joined ≡ u)). subst F t.1 fits-joined)
            (λ (t : (by ≢ id) × (get_elem? views by ≡ some u)). kept.each by u t.1)
            (at_set views id by joined u e.1))
            (at_set middle other by blank_view u at-by);
      }

  only-first : (by : ℕ) (v : View) → get_elem? (first_view first ∷ []) by ≡ some v → first_view first ≡ v
  only-first zero v at = some-injective (first_view first) v at
  only-first (suc by) v at = absurd (some-ne-none v (sym at))

  -- the first state
  abbrev opens_kept : (ws : List ℕ) (homes : List (Option Call)) → length ws ≡ 16 → slice_index ws 8 ≡ first
      → IsKept next first (record { words = ws; homes = homes; views = first_view first ∷ [] })
  opens_kept ws homes long word = record {
    run = [];
    long = long;
    is_run = word;
    shared = λ h. omega arith;
    parts = omega arith;
    each = λ by v at. subst (Fits first []) (only-first by v at) (record { seen = λ _. refl; spent = λ none. refl });
  }

  module _ {o : Tokens} where
    pub splits_ok : (id : ℕ) (v : View) → 1 < v.weight → Splits (IsOwned o next first) id v (without_part v) (part_of v)
    splits_ok id v more s owned at = record {
      kept = splits_kept id v more s owned.kept at;
      own = owned.own;
      owns = each-split (λ (u : View). Owns o u.moves) s.views id (without_part v) (part_of v) (owned.owns id v at)
          (owns_none o) owned.owns;
    }

    pub joins_ok : (id : ℕ) (v : View) (other : ℕ) (w : View) → 0 < v.weight
        → Joins (IsOwned o next first) id v other w (joined_view v w) blank_view
    joins_ok id v other w live s owned at apart there = record {
      kept = joins_kept id v other w live s owned.kept at apart there;
      own = owned.own;
      owns = each-joined (λ (u : View). Owns o u.moves) s.views id other (joined_view v w) blank_view
          (owns_both o v.moves w.moves (owned.owns id v at)
          (owned.owns other w (at_other s.views id other (joined_view v w) w apart there)))
          (owns_none o) owned.owns;
    }

    -- the first state
    pub first_kept : (ws : List ℕ) (homes : List (Option Call)) → length ws ≡ 16 → slice_index ws 8 ≡ first
        → IsOwned o next first (record { words = ws; homes = homes; views = first_view first ∷ [] })
    first_kept ws homes long word = record {
      kept = opens_kept ws homes long word;
      own = tt;
      owns = each-only (λ (u : View). Owns o u.moves) (first_view first) (owns_none o);
    }
