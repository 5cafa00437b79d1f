-- What follows of a run of a machine.
use Rattle.std.proofs.Common.{◌≡◌, ℕ, ◌+◌, Bool, true, false, List, [], ◌∷◌, refl, sym, ap, ◌∙◌, inl}
use Rattle.std.proofs.Common.{⊎_elim, arith}
use Rattle.sched_ticket.specs.Lists.{total, Each}
use Rattle.sched_limit_word.specs.Rule.{Next, IsRun, WasThere}
use Rattle.sched_limit_word.specs.Laws.{IsKeptBy}
use Rattle.sched_limit_word.specs.View.{move}
use Rattle.sched_limit_word.specs.declared.call.Call.{Call}
use Rattle.sched_limit_word.specs.declared.view.Move.{Move}

module _ (next : Next) (first : ℕ) where
  -- the word that a run left was there
  pub was_now : (run : List Move) (word : ℕ) → IsRun next first run word → WasThere first run word
  was_now [] word r = r
  was_now (m ∷ run) word r = inl r.0

  module _ (Q : ℕ → Bool) (kept : IsKeptBy next first Q) where
    -- what calls keep is true of the word that a run left
    pub kept_now : (run : List Move) (word : ℕ) → IsRun next first run word → Q word ≡ true
    kept_now [] word r = ap Q r ∙ kept.0
    kept_now (m ∷ run) word r = ap Q (r.0 ∙ r.1) ∙ kept.1 m.call m.found (kept_now run m.found r.2)

    -- and of each word that was there
    pub kept_there : (run : List Move) (word w : ℕ) → IsRun next first run word → WasThere first run w → Q w ≡ true
    kept_there [] word w r there = ap Q there ∙ kept.0
    kept_there (m ∷ run) word w r there = ⊎_elim
        (λ (left : w ≡ m.left). ap Q (left ∙ sym r.0) ∙ kept_now (m ∷ run) word r)
        (λ (was : WasThere first run w). kept_there run m.found w r.2 was)
        there

    -- a move of a run is what its call makes of the word that it found
    move_is : (m : Move) → m.left ≡ next m.call m.found → move m.call m.found (next m.call m.found) ≡ m
    move_is m e = ap (λ (n : ℕ). move m.call m.found n) (sym e)

    -- what is so of each call is so of each move
    pub each_so : (R : Move → Bool) → ((c : Call) (w : ℕ) → Q w ≡ true → R (move c w (next c w)) ≡ true)
        → (run : List Move) (word : ℕ) → IsRun next first run word → Each (λ (m : Move). R m ≡ true) run
    each_so R so [] word r = tt
    each_so R so (m ∷ run) word r = (
      ap R (sym (move_is m r.1)) ∙ so m.call m.found (kept_now run m.found r.2),
      each_so R so run m.found r.2,
    )

    -- sums over a run telescope
    pub telescopes : (value : ℕ → ℕ) (taken given : Move → ℕ)
        → ((c : Call) (w : ℕ) → Q w ≡ true
        → value (next c w) + taken (move c w (next c w)) ≡ value w + given (move c w (next c w)))
        → (run : List Move) (word : ℕ) → IsRun next first run word
        → value word + total taken run ≡ value first + total given run
    telescopes value taken given so [] word r = omega (arith, ap value r)
    telescopes value taken given so (m ∷ run) word r = omega (
      arith,
      ap value (r.0 ∙ r.1),
      so m.call m.found (kept_now run m.found r.2),
      ap taken (move_is m r.1),
      ap given (move_is m r.1),
      telescopes value taken given so run m.found r.2,
    )

-- how often R is not so
abbrev pub lapse : (Move → Bool) → Move → ℕ
lapse R m = elim (R m) [ true ↦ 0 | false ↦ 1 ]

lapse_so : (b : Bool) → elim b as (λ _. ℕ) [ true ↦ 0 | false ↦ 1 ] ≡ 0 → b ≡ true
lapse_so true e = refl
lapse_so false e = absurd (omega (arith, e))

so_lapse : (b : Bool) → b ≡ true → elim b as (λ _. ℕ) [ true ↦ 0 | false ↦ 1 ] ≡ 0
so_lapse true e = refl
so_lapse false e = ap (λ (b : Bool). elim b as (λ _. ℕ) [ true ↦ 0 | false ↦ 1 ]) e

module _ (R : Move → Bool) where
  -- where each is so, none lapses, and the other way round
  pub none_lapses : (run : List Move) → Each (λ (m : Move). R m ≡ true) run → total (lapse R) run ≡ 0
  none_lapses [] each = refl
  none_lapses (m ∷ run) each = omega (arith, so_lapse (R m) each.0, none_lapses run each.1)

  pub each_is_so : (run : List Move) → total (lapse R) run ≡ 0 → Each (λ (m : Move). R m ≡ true) run
  each_is_so [] none = tt
  each_is_so (m ∷ run) none = (lapse_so (R m) (omega (arith, none)), each_is_so run (omega (arith, none)))
