-- The laws of an adaptive limit.
use Rattle.std.proofs.Common.{◌≡◌, ℕ, ◌+◌, ◌-◌, ◌*◌, ◌/◌, ◌<◌, ◌≤◌, min, max, Bool, true, false, cond, ltb, leb}
use Rattle.std.proofs.Common.{zero, suc, ◌==◌, ◌&&◌, ◌||◌, List, [], ◌∷◌, refl, ap, ◌∙◌, arith, le-leb, leb-true}
use Rattle.std.proofs.Common.{eq-eqb}
use Rattle.std.proofs.Math.Nat.{mul-le-mul_left}
use Rattle.sched_limit_word.specs.Laws.{IsKeptBy, word_of}
use Rattle.sched_limit_word.specs.Rule.{IsRun}
use Rattle.sched_limit_word.specs.Tokens.{UsesItsOwn, gained_by, used_by}
use Rattle.sched_limit_word.specs.declared.call.Call.{Call}
use Rattle.sched_limit_word.specs.declared.call.Call.TheVariants.{Admit, Draw, Failed, Succeeded, Ended, Returned}
use Rattle.sched_limit_word.specs.declared.call.Call.TheVariants.{Closed, OpenedByHand, ClosedByHand}
use Rattle.sched_limit_word.specs.declared.view.Move.{Move}
use Rattle.sched_limit_word.proofs.Views.{what_is_kept_holds}
use Rattle.sched_limit.specs.Adaptive.{adaptive_first, adaptive_next, inside_of, level_of, laid, lowered}
use Rattle.sched_limit.specs.Adaptive.{raised}
use Rattle.sched_limit.specs.AdaptiveLaws.{IsInBounds, LevelsStayWithin, AdmitsAreUnderTheLevel, LevelsLearnInUse}
use Rattle.sched_limit.specs.AdaptiveLaws.{InsideIsCounted, is_under, learns_so, may_raise, may_lower}
use Rattle.sched_limit.specs.AdaptiveTokens.{adaptive_gained, adaptive_used, adaptive_tokens}
use Rattle.sched_limit.specs.declared.adaptive.Adaptive.{Adaptive}
use Rattle.sched_limit.proofs.Cases.{by_lt, by_bool, or_left, or_right, and_both, and_left, and_right, each_is}
use Rattle.sched_limit.proofs.Flights.{requests_laid, retries_laid}

module _ (k : Adaptive) where
  -- the bounds as a test
  abbrev Q : ℕ → Bool
  Q w = leb (1000 * k.least) (level_of w) && (leb (level_of w) (1000 * k.most) && leb (inside_of w) k.most)

  to_test : (w : ℕ) → IsInBounds k w → Q w ≡ true
  to_test w b = and_both (leb (1000 * k.least) (level_of w))
      (leb (level_of w) (1000 * k.most) && leb (inside_of w) k.most)
      (le-leb (1000 * k.least) (level_of w) b.least)
      (and_both (leb (level_of w) (1000 * k.most)) (leb (inside_of w) k.most)
      (le-leb (level_of w) (1000 * k.most) b.most) (le-leb (inside_of w) k.most b.inside))

  of_test : (w : ℕ) → Q w ≡ true → IsInBounds k w
  of_test w h =
      let rest : (leb (level_of w) (1000 * k.most) && leb (inside_of w) k.most) ≡ true =
      and_right (leb (1000 * k.least) (level_of w))
      (leb (level_of w) (1000 * k.most) && leb (inside_of w) k.most) h in
      record {
        least = leb-true (1000 * k.least) (level_of w) (and_left (leb (1000 * k.least) (level_of w))
            (leb (level_of w) (1000 * k.most) && leb (inside_of w) k.most) h);
        most = leb-true (level_of w) (1000 * k.most)
            (and_left (leb (level_of w) (1000 * k.most)) (leb (inside_of w) k.most) rest);
        inside = leb-true (inside_of w) k.most
            (and_right (leb (level_of w) (1000 * k.most)) (leb (inside_of w) k.most) rest);
      }

  -- a word of so many requests and such a level is in bounds where these are
  laid_in : (i l : ℕ) → 1000 * k.least ≤ l → l ≤ 1000 * k.most → i ≤ k.most → IsInBounds k (laid i l)
  laid_in i l least most inside =
      let few : k.most ≤ 65535 = k.levels.few in
      let small : l < 4294967296 = omega (arith, most, few) in
      record {
        least = omega (arith, retries_laid i l small, least);
        most = omega (arith, retries_laid i l small, most);
        inside = omega (arith, requests_laid i l small, inside);
      }

  -- a back-off leaves less
  share_less : (l : ℕ) → l * k.backoff / 1000 ≤ l
  share_less l =
      let few : k.backoff ≤ 999 = k.share.1 in
      let le : l * k.backoff ≤ l * 999 = mul-le-mul_left l few in
      omega (arith, le)

  lowered_in : (l : ℕ) → l ≤ 1000 * k.most → (1000 * k.least ≤ lowered k l) × (lowered k l ≤ 1000 * k.most)
  lowered_in l h =
      let less : l * k.backoff / 1000 ≤ l = share_less l in
      let above : k.least ≤ k.first = k.levels.above in
      let below : k.first ≤ k.most = k.levels.below in
      (omega arith, omega (arith, less, h, above, below))

  added_in : (l x : ℕ) → 1000 * k.least ≤ l
      → (1000 * k.least ≤ min (l + x) (1000 * k.most)) × (min (l + x) (1000 * k.most) ≤ 1000 * k.most)
  added_in l x h =
      let above : k.least ≤ k.first = k.levels.above in
      let below : k.first ≤ k.most = k.levels.below in
      (omega (arith, h, above, below), omega arith)

  -- what a success adds
  abbrev more : ℕ → ℕ
  more l = max (1000000 / max l 1) 1

  next_in : (c : Call) (w : ℕ) → IsInBounds k w → IsInBounds k (adaptive_next k c w)
  next_in (Admit now random before) w b = by_lt (IsInBounds k) (inside_of w) (level_of w / 1000) (w + 4294967296) w
      (λ room. record {
        least = omega (arith, b.least);
        most = omega (arith, b.most);
        inside = omega (arith, room, b.most);
      })
      (λ _. b)
  next_in (Draw now cost slots) w b = b
  next_in (Failed now generation) w b =
      let l = lowered_in (level_of w) b.most in laid_in (inside_of w) (lowered k (level_of w)) l.0 l.1 b.inside
  next_in (Succeeded now generation worth) w b =
      let l = added_in (level_of w) (more (level_of w)) b.least in
      by_bool (IsInBounds k) (leb (level_of w) (2000 * inside_of w)) (laid (inside_of w) (raised k (level_of w))) w
      (λ _. laid_in (inside_of w) (raised k (level_of w)) l.0 l.1 b.inside) (λ _. b)
  next_in (Ended slots) w b = laid_in (inside_of w - 1) (level_of w) b.least b.most (omega (arith, b.inside))
  next_in (Returned cost slots) w b = b
  next_in (Closed now) w b = b
  next_in (OpenedByHand now until) w b = b
  next_in (ClosedByHand now) w b = b

  first_in : IsInBounds k (adaptive_first k)
  first_in =
      let above : k.least ≤ k.first = k.levels.above in
      let below : k.first ≤ k.most = k.levels.below in
      let few : k.most ≤ 65535 = k.levels.few in
      record {
        least = omega (arith, above, below, few);
        most = omega (arith, below, few);
        inside = omega (arith, below, few);
      }

  kept_in : IsKeptBy (adaptive_next k) (adaptive_first k) Q
  kept_in = (
    to_test (adaptive_first k) first_in,
    λ c w h. to_test (adaptive_next k c w) (next_in c w (of_test w h)),
  )

  under : (c : Call) (w : ℕ) → is_under c w (adaptive_next k c w) ≡ true
  under (Admit now random before) w = by_lt
      (λ (x : ℕ). ((x == w) || ((level_of x == level_of w) && leb (1000 * inside_of x) (level_of w))) ≡ true)
      (inside_of w) (level_of w / 1000) (w + 4294967296) w
      (λ room. or_right (w + 4294967296 == w)
      ((level_of (w + 4294967296) == level_of w) && leb (1000 * inside_of (w + 4294967296)) (level_of w))
      (and_both (level_of (w + 4294967296) == level_of w) (leb (1000 * inside_of (w + 4294967296)) (level_of w))
      (eq-eqb (level_of (w + 4294967296)) (level_of w) (omega arith))
      (le-leb (1000 * inside_of (w + 4294967296)) (level_of w) (omega (arith, room)))))
      (λ _. or_left (w == w) ((level_of w == level_of w) && leb (1000 * inside_of w) (level_of w))
      (eq-eqb w w refl))
  under (Draw now cost slots) w = refl
  under (Failed now generation) w = refl
  under (Succeeded now generation worth) w = refl
  under (Ended slots) w = refl
  under (Returned cost slots) w = refl
  under (Closed now) w = refl
  under (OpenedByHand now until) w = refl
  under (ClosedByHand now) w = refl

  -- a level that falls by a failure, or stays, or rises by a success in use
  falls : (now generation w x : ℕ) → level_of x ≤ level_of w → learns_so (Failed now generation) w x ≡ true
  falls now generation w x le =
      and_both (leb (level_of x) (level_of w) || false) (leb (level_of w) (level_of x) || true)
      (or_left (leb (level_of x) (level_of w)) false (le-leb (level_of x) (level_of w) le))
      (or_right (leb (level_of w) (level_of x)) true refl)

  stays : (c : Call) (w x : ℕ) → level_of x ≡ level_of w → learns_so c w x ≡ true
  stays c w x e =
      and_both (leb (level_of x) (level_of w) || may_raise c w) (leb (level_of w) (level_of x) || may_lower c)
      (or_left (leb (level_of x) (level_of w)) (may_raise c w)
      (le-leb (level_of x) (level_of w) (omega (arith, e))))
      (or_left (leb (level_of w) (level_of x)) (may_lower c)
      (le-leb (level_of w) (level_of x) (omega (arith, e))))

  rises : (now generation worth w x : ℕ) → leb (level_of w) (2000 * inside_of w) ≡ true → level_of w ≤ level_of x
      → learns_so (Succeeded now generation worth) w x ≡ true
  rises now generation worth w x used le =
      and_both (leb (level_of x) (level_of w) || leb (level_of w) (2000 * inside_of w))
      (leb (level_of w) (level_of x) || false)
      (or_right (leb (level_of x) (level_of w)) (leb (level_of w) (2000 * inside_of w)) used)
      (or_left (leb (level_of w) (level_of x)) false (le-leb (level_of w) (level_of x) le))

  small : (w : ℕ) → level_of w < 4294967296
  small w = omega arith

  learns : (c : Call) (w : ℕ) → IsInBounds k w → learns_so c w (adaptive_next k c w) ≡ true
  learns (Admit now random before) w b =
      by_lt (λ (x : ℕ). learns_so (Admit now random before) w x ≡ true) (inside_of w) (level_of w / 1000)
      (w + 4294967296) w
      (λ _. stays (Admit now random before) w (w + 4294967296) (omega arith))
      (λ _. stays (Admit now random before) w w refl)
  learns (Draw now cost slots) w b = stays (Draw now cost slots) w w refl
  learns (Failed now generation) w b =
      let l : ℕ = level_of w in
      let less : l * k.backoff / 1000 ≤ l = share_less l in
      let few : k.most ≤ 65535 = k.levels.few in
      let le : lowered k l ≤ l = omega (arith, less, b.least) in
      falls now generation w (laid (inside_of w) (lowered k l))
      (omega (arith, retries_laid (inside_of w) (lowered k l) (omega (arith, le, b.most, few)), le))
  learns (Succeeded now generation worth) w b =
      let l : ℕ = level_of w in
      let few : k.most ≤ 65535 = k.levels.few in
      let le : l ≤ min (l + more l) (1000 * k.most) = omega (arith, b.most) in
      let most : min (l + more l) (1000 * k.most) ≤ 1000 * k.most = omega arith in
      by_bool (λ (x : ℕ). learns_so (Succeeded now generation worth) w x ≡ true) (leb l (2000 * inside_of w))
      (laid (inside_of w) (raised k l)) w
      (λ used. rises now generation worth w (laid (inside_of w) (raised k l)) used
      (omega (arith, retries_laid (inside_of w) (raised k l) (omega (arith, most, few)), le)))
      (λ _. stays (Succeeded now generation worth) w w refl)
  learns (Ended slots) w b = stays (Ended slots) w (laid (inside_of w - 1) (level_of w))
      (retries_laid (inside_of w - 1) (level_of w) (small w))
  learns (Returned cost slots) w b = stays (Returned cost slots) w w refl
  learns (Closed now) w b = stays (Closed now) w w refl
  learns (OpenedByHand now until) w b = stays (OpenedByHand now until) w w refl
  learns (ClosedByHand now) w b = stays (ClosedByHand now) w w refl

  -- what each call gains and uses, whatever word it finds
  counted : (c : Call) (w : ℕ) → adaptive_used c ≤ inside_of w
      → inside_of (adaptive_next k c w) + adaptive_used c ≡ inside_of w + adaptive_gained c w
  counted (Admit now random before) w le = admitted (ltb (inside_of w) (level_of w / 1000)) w
    where
      admitted : (room : Bool) (w : ℕ)
          → inside_of (cond room (w + 4294967296) w) + 0 ≡ inside_of w + cond room 1 0
      admitted true w = omega arith
      admitted false w = omega arith
  counted (Draw now cost slots) w le = omega arith
  counted (Failed now generation) w le =
      let l : ℕ = level_of w in
      let less : l * k.backoff / 1000 ≤ l = share_less l in
      let above : k.least ≤ k.first = k.levels.above in
      let below : k.first ≤ k.most = k.levels.below in
      let few : k.most ≤ 65535 = k.levels.few in
      let fits : lowered k l < 4294967296 = omega (arith, less, small w, above, below, few) in
      omega (arith, requests_laid (inside_of w) (lowered k l) fits)
  counted (Succeeded now generation worth) w le =
      let l : ℕ = level_of w in
      let few : k.most ≤ 65535 = k.levels.few in
      let most : min (l + more l) (1000 * k.most) ≤ 1000 * k.most = omega arith in
      by_bool (λ (x : ℕ). inside_of x + 0 ≡ inside_of w + 0) (leb l (2000 * inside_of w))
      (laid (inside_of w) (raised k l)) w
      (λ _. omega (arith, requests_laid (inside_of w) (raised k l) (omega (arith, most, few))))
      (λ _. refl)
  counted (Ended slots) w le = omega (arith, requests_laid (inside_of w - 1) (level_of w) (small w), le)
  counted (Returned cost slots) w le = omega arith
  counted (Closed now) w le = omega arith
  counted (OpenedByHand now until) w le = omega arith
  counted (ClosedByHand now) w le = omega arith

  -- what is used, the word has
  word_has : (u used gained there : ℕ) → (0 < u → u + used ≤ gained) → there + used ≡ gained → u ≤ there
  word_has zero used gained there may is = omega arith
  word_has (suc u) used gained there may is = omega (arith, may (omega arith), is)

  run_counted : (run : List Move) (word : ℕ) → IsRun (adaptive_next k) (adaptive_first k) run word
      → UsesItsOwn adaptive_tokens run
      → inside_of word + used_by adaptive_tokens 0 run ≡ gained_by adaptive_tokens 0 run
  run_counted [] word r own = omega (arith, ap inside_of r, first_in.inside, none)
    where
      none : inside_of (adaptive_first k) ≡ 0
      none =
          let below : k.first ≤ k.most = k.levels.below in
          let few : k.most ≤ 65535 = k.levels.few in
          omega (arith, below, few)
  run_counted (m ∷ run) word r own =
      let before = run_counted run m.found r.2 own.1 in
      let le = word_has (adaptive_used m.call) (used_by adaptive_tokens 0 run) (gained_by adaptive_tokens 0 run)
      (inside_of m.found) (own.0 0) before in
      omega (arith, ap inside_of (r.0 ∙ r.1), counted m.call m.found le, before)

pub levels_stay_within : LevelsStayWithin
levels_stay_within k s kept = of_test k (word_of s)
    (what_is_kept_holds (adaptive_next k) (adaptive_first k) s kept (Q k) (kept_in k)).0

pub admits_are_under_the_level : AdmitsAreUnderTheLevel
admits_are_under_the_level k =
    each_is (adaptive_next k) (adaptive_first k) (Q k) is_under (kept_in k) (λ c w _. under k c w)

pub levels_learn_in_use : LevelsLearnInUse
levels_learn_in_use k = each_is (adaptive_next k) (adaptive_first k) (Q k) learns_so (kept_in k)
    (λ c w h. learns k c w (of_test k w h))

pub inside_is_counted : InsideIsCounted
inside_is_counted k s owned = omega (
  arith,
  run_counted k owned.kept.run (word_of s) owned.kept.is_run owned.own,
  owned.kept.shared (λ (m : Move). adaptive_used m.call),
  owned.kept.shared (λ (m : Move). adaptive_gained m.call m.found),
)
