-- Rows of keys: what a row has where one is put in another's place.
use Rattle.std.proofs.Common.{◌≡◌, ◌≢◌, ℕ, zero, suc, ◌+◌, ◌-◌, ◌%◌, ◌<◌, Bool, true, false, cond, eqb, eqb-true}
use Rattle.std.proofs.Common.{eq-eqb, zero-add, ◌⊎◌, inl, inr}
use Rattle.std.proofs.Common.{List, [], ◌∷◌, ◌++◌, length, get_or, set, refl, sym, ◌∙◌, ap, subst, arith}
use Rattle.std.proofs.lemmas.Bool.{false≢true, ne_eqb}
use Rattle.std.proofs.lemmas.List.Sums.{sum_by_push}
use Rattle.std.specs.Global.{Global}
use Rattle.std.specs.declared.cmp.Reverse.{Reverse}
use Rattle.std_alloc.specs.declared.vec.Vec.{Vec}
use Rattle.sched_calendar.specs.Keys.{moment_of, row_of, one_if, is_at, times_in, AreOf, IsAhead, row_at, IsPlaced}
use Rattle.sched_calendar.specs.Keys.{ArePlaced}

abbrev Row : Type 0
Row = Vec (Reverse ℕ) Global

pub row_at-get : (rows : List Row) (i : ℕ) (d : Row) → i < length rows → row_at rows i ≡ (get_or rows i d).items
unfolding row_at
row_at-get [] i d few = absurd (omega arith)
row_at-get (row ∷ rows) zero d few = refl
row_at-get (row ∷ rows) (suc i) d few = row_at-get rows i d (omega arith)

row_at-same : (rows : List Row) (i : ℕ) (row : Row) → i < length rows → row_at (set rows i row) i ≡ row.items
unfolding row_at
row_at-same [] i row few = absurd (omega arith)
row_at-same (old ∷ rows) zero row few = refl
row_at-same (old ∷ rows) (suc i) row few = row_at-same rows i row (omega arith)

row_at-other : (rows : List Row) (i j : ℕ) (row : Row) → i ≢ j → row_at (set rows i row) j ≡ row_at rows j
unfolding row_at
row_at-other [] i j row other = refl
row_at-other (old ∷ rows) zero zero row other = absurd (other refl)
row_at-other (old ∷ rows) zero (suc j) row other = refl
row_at-other (old ∷ rows) (suc i) zero row other = refl
row_at-other (old ∷ rows) (suc i) (suc j) row other = row_at-other rows i j row (λ e. other (ap suc e))

row_at-by : (rows : List Row) (i j : ℕ) (row : Row) → i < length rows → (b : Bool) → eqb i j ≡ b →
    row_at (set rows i row) j ≡ cond b row.items (row_at rows j)
row_at-by rows i j row few true e =
    ap (row_at (set rows i row)) (sym (eqb-true i j e)) ∙ row_at-same rows i row few
row_at-by rows i j row few false e =
    row_at-other rows i j row (λ same. false≢true (sym e ∙ eq-eqb i j same))

pub row_at-set : (rows : List Row) (i j : ℕ) (row : Row) → i < length rows →
    row_at (set rows i row) j ≡ cond (eqb i j) row.items (row_at rows j)
row_at-set rows i j row few = row_at-by rows i j row few (eqb i j) refl

-- how often keys stand in a row where a key was put into one of them, or was not
put_in : (k : ℕ) (x : Reverse ℕ) (old new : List (Reverse ℕ)) (b : Bool) → new ≡ cond b (old ++ x ∷ []) old →
    times_in k new ≡ cond b (one_if x.0 k) 0 + times_in k old
put_in k x old new true is = ap (times_in k) is ∙ (let all = sum_by_push (is_at k) old x in omega arith)
put_in k x old new false is = ap (times_in k) is ∙ sym (zero-add (times_in k old))

put_there : (rows : List Row) (i j k : ℕ) (row : Row) (x : Reverse ℕ) (b : Bool) →
    times_in k row.items ≡ cond b (one_if x.0 k) 0 + times_in k (row_at rows i) → (here : Bool) → eqb i j ≡ here →
    times_in k (cond here row.items (row_at rows j))
    ≡ cond here (cond b (one_if x.0 k) 0) 0 + times_in k (row_at rows j)
put_there rows i j k row x b put true e =
    put ∙ ap (λ r. cond b (one_if x.0 k) 0 + times_in k (row_at rows r)) (eqb-true i j e)
put_there rows i j k row x b put false e = sym (zero-add (times_in k (row_at rows j)))

pub times_put : (rows : List Row) (i j k : ℕ) (row : Row) (x : Reverse ℕ) (b : Bool) → i < length rows →
    row.items ≡ cond b (row_at rows i ++ x ∷ []) (row_at rows i) →
    times_in k (row_at (set rows i row) j) ≡ cond (eqb i j) (cond b (one_if x.0 k) 0) 0 + times_in k (row_at rows j)
times_put rows i j k row x b few is =
    ap (times_in k) (row_at-set rows i j row few)
    ∙ put_there rows i j k row x b (put_in k x (row_at rows i) row.items b is) (eqb i j) refl

-- a key that is counted is this one, or was there before
pub is_one : (x k : ℕ) (b : Bool) → 0 < cond b 1 0 → eqb x k ≡ b → x ≡ k
is_one x k true some e = eqb-true x k e
is_one x k false some e = absurd (omega arith)

one_of : (x k : ℕ) (here b : Bool) → 0 < cond here (cond b (one_if x k) 0) 0 → x ≡ k
one_of x k true true some = is_one x k (eqb x k) some refl
one_of x k true false some = absurd (omega arith)
one_of x k false b some = absurd (omega arith)

here_of : (x i j k : ℕ) (here b : Bool) → 0 < cond here (cond b (one_if x k) 0) 0 → eqb i j ≡ here → i ≡ j
here_of x i j k true b some e = eqb-true i j e
here_of x i j k false b some e = absurd (omega arith)

pub either : (n m : ℕ) → 0 < n + m → (0 < n) ⊎ (0 < m)
either zero m some = inr (omega arith)
either (suc n) m some = inl (omega arith)

-- a key that is put into its row
pub placed_put : (rows : List Row) (i reached : ℕ) (row : Row) (x : Reverse ℕ) (b : Bool) → i < length rows →
    row_of x.0 ≡ i → IsAhead reached x.0 → ArePlaced reached rows →
    row.items ≡ cond b (row_at rows i ++ x ∷ []) (row_at rows i) → ArePlaced reached (set rows i row)
placed_put rows i reached row x b few here ahead old is = λ j k some.
    let new = cond (eqb i j) (cond b (one_if x.0 k) 0) 0 in
    let all = times_put rows i j k row x b few is in
    elim (either new (times_in k (row_at rows j)) (omega arith)) as (λ _. IsPlaced reached j k) [
      | inl one ↦
          let same = one_of x.0 k (eqb i j) b one in
          record {
            row_is = ap row_of (sym same) ∙ (here ∙ here_of x.0 i j k (eqb i j) b one refl);
            ahead = subst (IsAhead reached) same ahead;
          }
      | inr more ↦ old j k more
    ]

pub times_row : (rows : List Row) (i k : ℕ) (row : Row) (x : Reverse ℕ) → i < length rows → row_of x.0 ≡ i →
    row.items ≡ row_at rows i ++ x ∷ [] → (b : Bool) → eqb i (row_of k) ≡ b →
    cond b (one_if x.0 k) 0 ≡ one_if x.0 k
times_row rows i k row x few here is true e = refl
times_row rows i k row x few here is false e =
    let other = λ (same : x.0 ≡ k). false≢true (sym e ∙ eq-eqb i (row_of k) (sym here ∙ ap row_of same)) in
    sym (ap {B = ℕ} (λ b. cond b 1 0) (ne_eqb x.0 k other))

-- each key is counted where its row is
pub times_put_row : (rows : List Row) (i k : ℕ) (row : Row) (x : Reverse ℕ) → i < length rows → row_of x.0 ≡ i →
    row.items ≡ row_at rows i ++ x ∷ [] →
    times_in k (row_at (set rows i row) (row_of k)) ≡ one_if x.0 k + times_in k (row_at rows (row_of k))
times_put_row rows i k row x few here is =
    let all = times_put rows i (row_of k) k row x true few is in
    let one = times_row rows i k row x few here is (eqb i (row_of k)) refl in
    all ∙ ap (λ n. n + times_in k (row_at rows (row_of k))) one

pub put_is : (here there new : List (Reverse ℕ)) (x : Reverse ℕ) (b : Bool) → here ≡ there →
    new ≡ cond b (here ++ x ∷ []) here → new ≡ cond b (there ++ x ∷ []) there
put_is here there new x b same is = subst (λ r. new ≡ cond b (r ++ x ∷ []) r) same is

-- ---- the row of the next moment is taken

next_row : (q m : ℕ) → q < m → m < q + 16384 → m % 16384 ≡ (q + 1) % 16384 → m ≡ q + 1
next_row q m low high same = omega arith

-- the keys of its row are those of the next moment
pub here_of_row : (rows : List Row) (q : ℕ) → ArePlaced q rows → AreOf (q + 1) (row_at rows ((q + 1) % 16384))
here_of_row rows q placed k some =
    let there = placed ((q + 1) % 16384) k some in
    next_row q (moment_of k) there.ahead.later there.ahead.near there.row_is

later_still : (q m r : ℕ) → q < m → m % 16384 ≡ r → (q + 1) % 16384 ≢ r → q + 1 < m
later_still q m r low row other = elim (either (m - (q + 1)) (q + 2 - m) (omega arith)) as (λ _. q + 1 < m) [
  | inl more ↦ omega arith
  | inr less ↦
      let same : m ≡ q + 1 = omega arith in
      absurd (other (ap (λ n. n % 16384) (sym same) ∙ row))
]

-- and the others come after it
placed_other : (rows : List Row) (q j k : ℕ) (row : Row) → ArePlaced q rows → (q + 1) % 16384 ≢ j →
    0 < times_in k (row_at rows j) → IsPlaced (q + 1) j k
placed_other rows q j k row placed other some =
    let was = placed j k some in
    record {
      row_is = was.row_is;
      ahead = record {
        later = later_still q (moment_of k) j was.ahead.later was.row_is other;
        near = (let near = was.ahead.near in omega arith);
        few = was.ahead.few;
      };
    }

placed_by : (rows : List Row) (q j k : ℕ) (row : Row) → ArePlaced q rows → row.items ≡ [] → (b : Bool) →
    eqb ((q + 1) % 16384) j ≡ b → 0 < times_in k (cond b row.items (row_at rows j)) → IsPlaced (q + 1) j k
placed_by rows q j k row placed none true e some =
    let gone : times_in k row.items ≡ 0 = ap (times_in k) none in absurd (omega arith)
placed_by rows q j k row placed none false e some =
    placed_other rows q j k row placed (λ same. false≢true (sym e ∙ eq-eqb ((q + 1) % 16384) j same)) some

pub placed_step : (rows : List Row) (q : ℕ) (row : Row) → (q + 1) % 16384 < length rows → ArePlaced q rows →
    row.items ≡ [] → ArePlaced (q + 1) (set rows ((q + 1) % 16384) row)
placed_step rows q row few placed none = λ j k some.
    placed_by rows q j k row placed none (eqb ((q + 1) % 16384) j) refl
    (subst (λ r. 0 < times_in k r) (row_at-set rows ((q + 1) % 16384) j row few) some)

none_or_here : (q k : ℕ) (xs : List (Reverse ℕ)) → AreOf (q + 1) xs → (q + 1) % 16384 ≢ row_of k →
    (n : ℕ) → times_in k xs ≡ n → n ≡ 0
none_or_here q k xs here other zero e = refl
none_or_here q k xs here other (suc n) e =
    absurd (other (ap (λ m. m % 16384) (sym (here k (omega arith)))))

times_by : (rows : List Row) (q k : ℕ) (row : Row) → ArePlaced q rows → row.items ≡ [] → (b : Bool) →
    eqb ((q + 1) % 16384) (row_of k) ≡ b →
    times_in k (row_at rows ((q + 1) % 16384)) + times_in k (cond b row.items (row_at rows (row_of k)))
    ≡ times_in k (row_at rows (row_of k))
times_by rows q k row placed none true e =
    let gone : times_in k row.items ≡ 0 = ap (times_in k) none in
    let same = ap (λ i. times_in k (row_at rows i)) (eqb-true ((q + 1) % 16384) (row_of k) e) in
    omega arith
times_by rows q k row placed none false e =
    let other = none_or_here q k (row_at rows ((q + 1) % 16384)) (here_of_row rows q placed)
    (λ same. false≢true (sym e ∙ eq-eqb ((q + 1) % 16384) (row_of k) same)) _ refl in
    omega arith

pub times_step : (rows : List Row) (q k : ℕ) (row : Row) → (q + 1) % 16384 < length rows → ArePlaced q rows →
    row.items ≡ [] →
    times_in k (row_at rows ((q + 1) % 16384)) + times_in k (row_at (set rows ((q + 1) % 16384) row) (row_of k))
    ≡ times_in k (row_at rows (row_of k))
times_step rows q k row few placed none =
    ap (λ r. times_in k (row_at rows ((q + 1) % 16384)) + times_in k r)
    (row_at-set rows ((q + 1) % 16384) (row_of k) row few)
    ∙ times_by rows q k row placed none (eqb ((q + 1) % 16384) (row_of k)) refl

-- ---- rows without keys

abbrev pub AreEmpty : List Row → Type 0
AreEmpty rows = (i : ℕ) → row_at rows i ≡ []

pub none_at : AreEmpty []
unfolding row_at
none_at i = refl

pub one_more : (rows : List Row) (row : Row) → AreEmpty rows → row.items ≡ [] → AreEmpty (rows ++ row ∷ [])
unfolding row_at
one_more [] row old none zero = none
one_more [] row old none (suc i) = refl
one_more (r ∷ rows) row old none zero = old 0
one_more (r ∷ rows) row old none (suc i) = one_more rows row (λ j. old (suc j)) none i

pub placed_none : (rows : List Row) (reached : ℕ) → AreEmpty rows → ArePlaced reached rows
placed_none rows reached none i k some =
    let gone : times_in k (row_at rows i) ≡ 0 = ap (times_in k) (none i) in absurd (omega arith)
