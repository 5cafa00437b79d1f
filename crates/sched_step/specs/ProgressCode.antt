-- The code by which a proof tells progress apart: each kind has a tag, and its parts stand beside it.
use Rattle.std.specs.Prelude.{◌≡◌, ℕ, true, false, cond, nat_eq, List, [], ◌∷◌, get_or, Option, Some, None, refl}
use Rattle.std.specs.Coded.{Coded}
use Rattle.sched_plan.specs.Datum.{Datum}
use Rattle.sched_plan.specs.DatumCode.{datum_code, datum_from, datum_back}
use Rattle.sched_step.specs.Progress.{Kept, none_kept, since, round_since, last_at, total, listed, Progress, at_leaf}
use Rattle.sched_step.specs.Progress.{at_one, at_two, bit}
use Rattle.sched_step.specs.declared.leaves.LeafState.{LeafState}
use Rattle.sched_step.specs.declared.leaves.LeafState.TheVariants.{Counted, Planned, Windows, Product, Scaled, Summands}
use Rattle.sched_step.specs.declared.leaves.LeafState.TheVariants.{Waited, Started, Blank, Unfolded, Spent}
use Rattle.sched_step.specs.declared.turns.Turn.{Turn}
use Rattle.sched_step.specs.declared.turns.Turn.TheVariants.{Together, Uncrossed, Crossed}
use base.Stored.{Gv, gnil, gnum, gcons}
use mathlib.Core.Path.{sym, ◌∙◌, ap}

abbrev number_from : Gv → ℕ
number_from (gnum n) = n
number_from _ = 0

abbrev moment_code : Option ℕ → Gv
moment_code None = gnil
moment_code (Some m) = gnum m

abbrev moment_from : Gv → Option ℕ
moment_from (gnum m) = Some m
moment_from _ = None

abbrev plan_code : Option (ℕ × ℕ) → Gv
plan_code None = gnil
plan_code (Some p) = gcons (gnum p.0) (gnum p.1)

abbrev plan_from : Gv → Option (ℕ × ℕ)
plan_from (gcons a b) = Some (number_from a, number_from b)
plan_from _ = None

abbrev values_code : List Datum → Gv
values_code [] = gnil
values_code (d ∷ ds) = gcons (datum_code d) (values_code ds)

abbrev values_from : Gv → List Datum
values_from (gcons a b) = datum_from a ∷ values_from b
values_from _ = []

-- a tag and two parts
abbrev tagged : ℕ → Gv → Gv → Gv
tagged tag a b = gcons (gnum tag) (gcons a b)

abbrev leaf_state_code : LeafState → Gv
leaf_state_code (Counted n) = tagged 0 (gnum n) gnil
leaf_state_code (Planned n p) = tagged 1 (gnum n) (plan_code p)
leaf_state_code (Windows n m) = tagged 2 (gnum n) (moment_code m)
leaf_state_code (Product x) = tagged 3 (gnum x) gnil
leaf_state_code (Scaled x) = tagged 4 (gnum x) gnil
leaf_state_code (Summands x y) = tagged 5 (gnum x) (gnum y)
leaf_state_code (Waited x) = tagged 6 (gnum x) gnil
leaf_state_code (Started m) = tagged 7 gnil (moment_code m)
leaf_state_code Blank = tagged 8 gnil gnil
leaf_state_code (Unfolded x) = tagged 9 (gnum x) gnil
leaf_state_code (Spent b) = tagged 10 (gnum (bit b)) gnil

-- the leaves' states in the order of their tags
abbrev leaf_state_at : ℕ → Gv → Gv → LeafState
leaf_state_at tag a b =
    let n = number_from a in
    let states =
    Counted n ∷ Planned n (plan_from b) ∷ Windows n (moment_from b) ∷ Product n ∷ Scaled n ∷ Summands n (number_from b)
    ∷ Waited n ∷ Started (moment_from b) ∷ Blank ∷ Unfolded n ∷ Spent (nat_eq n 1) ∷ [] in
    get_or states tag Blank

abbrev leaf_state_from : Gv → LeafState
leaf_state_from (gcons (gnum tag) (gcons a b)) = leaf_state_at tag a b
leaf_state_from _ = Blank

abbrev kept_code : Kept → Gv
kept_code none_kept = gcons (gnum 0) gnil
kept_code (since m) = gcons (gnum 1) (moment_code m)
kept_code (round_since m) = gcons (gnum 2) (moment_code m)
kept_code (last_at m) = gcons (gnum 3) (moment_code m)
kept_code (total n) = gcons (gnum 4) (gnum n)
kept_code (listed ds) = gcons (gnum 5) (values_code ds)

abbrev kept_at : ℕ → Gv → Kept
kept_at tag a =
    let kinds =
    none_kept ∷ since (moment_from a) ∷ round_since (moment_from a) ∷ last_at (moment_from a) ∷ total (number_from a) ∷
    listed (values_from a) ∷ [] in
    get_or kinds tag none_kept

abbrev kept_from : Gv → Kept
kept_from (gcons (gnum tag) a) = kept_at tag a
kept_from _ = none_kept

abbrev turn_code : Turn → Gv
turn_code Together = gnum 0
turn_code Uncrossed = gnum 1
turn_code Crossed = gnum 2

abbrev turn_of_tag : ℕ → Turn
turn_of_tag tag = get_or (Together ∷ Uncrossed ∷ Crossed ∷ []) tag Together

abbrev turn_from : Gv → Turn
turn_from (gnum tag) = turn_of_tag tag
turn_from _ = Together

-- progress is stored as the tag of its shape, what its node keeps and up to two parts
abbrev progress_code : Progress → Gv
progress_code (at_leaf s) = gcons (gnum 0) (gcons (leaf_state_code s) (gcons gnil gnil))
progress_code (at_one k p) = gcons (gnum 1) (gcons (kept_code k) (gcons (progress_code p) gnil))
progress_code (at_two t p q) = gcons (gnum 2) (gcons (turn_code t) (gcons (progress_code p) (progress_code q)))

abbrev shape_at : ℕ → Gv → Progress → Progress → Progress
shape_at tag k p q =
    cond (nat_eq tag 0) (at_leaf (leaf_state_from k))
    (cond (nat_eq tag 1) (at_one (kept_from k) p) (at_two (turn_from k) p q))

abbrev progress_from : Gv → Progress
progress_from (gcons (gnum tag) (gcons k (gcons p q))) = shape_at tag k (progress_from p) (progress_from q)
progress_from _ = at_leaf Blank

moment_back : (m : Option ℕ) → moment_from (moment_code m) ≡ m
moment_back None = refl
moment_back (Some m) = refl

plan_back : (p : Option (ℕ × ℕ)) → plan_from (plan_code p) ≡ p
plan_back None = refl
plan_back (Some p) = refl

values_back : (ds : List Datum) → values_from (values_code ds) ≡ ds
values_back [] = refl
values_back (d ∷ ds) = λ i. datum_back d i ∷ values_back ds i

leaf_state_back : (s : LeafState) → leaf_state_from (leaf_state_code s) ≡ s
leaf_state_back (Planned n p) = λ i. Planned n (plan_back p i)
leaf_state_back (Windows n m) = λ i. Windows n (moment_back m i)
leaf_state_back (Started m) = λ i. Started (moment_back m i)
leaf_state_back (Spent true) = refl
leaf_state_back (Spent false) = refl
leaf_state_back s = refl

pub kept_back : (k : Kept) → kept_from (kept_code k) ≡ k
kept_back (since m) = λ i. since (moment_back m i)
kept_back (round_since m) = λ i. round_since (moment_back m i)
kept_back (last_at m) = λ i. last_at (moment_back m i)
kept_back (listed ds) = λ i. listed (values_back ds i)
kept_back k = refl

turn_back : (t : Turn) → turn_from (turn_code t) ≡ t
turn_back Together = refl
turn_back _ = refl

pub progress_back : (p : Progress) → progress_from (progress_code p) ≡ p
progress_back (at_leaf s) = λ i. at_leaf (leaf_state_back s i)
progress_back (at_one k p) = λ i. at_one (kept_back k i) (progress_back p i)
progress_back (at_two t p q) = λ i. at_two (turn_back t i) (progress_back p i) (progress_back q i)

abbrev pub coded_progress : Coded Progress
coded_progress =
    record { code = progress_code; inj = λ x y p. sym (progress_back x) ∙ ap progress_from p ∙ progress_back y }

abbrev pub coded_kept : Coded Kept
coded_kept = record { code = kept_code; inj = λ x y p. sym (kept_back x) ∙ ap kept_from p ∙ kept_back y }
