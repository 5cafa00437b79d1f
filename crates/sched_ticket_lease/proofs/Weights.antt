-- Sets of numbers as spans, by what they weigh.
use Rattle.std.proofs.Common.{◌≡◌, ℕ, zero, suc, ◌+◌, ◌-◌, ◌*◌, ◌<◌, ◌≤◌, List, [], ◌∷◌, ◌++◌, length, get_or, inl}
use Rattle.std.proofs.Common.{inr, max, subst, ap, arith}
use Rattle.std.specs.Prelude.{All, HoldsAt, sum_by}
use Rattle.std.proofs.lemmas.List.Sums.{sum_by-le, sum_by_push, get_or-le-sum_by}
use Rattle.sched_ticket.specs.Lists.{below, is}
use Rattle.sched_ticket.proofs.Sums.{below_more, below-one, below-is, once_below-yes, once_below-no, once_below-le}
use Rattle.sched_ticket_lease.specs.declared.span.Span.{Span}
use Rattle.sched_ticket_lease.specs.Spans.{between, span_weight, weight, IsApart, Meets, IsNotIn, HasNone, HasSome}

module _ (q : ℕ → ℕ) where
  below-up : (a k : ℕ) → below q a ≤ below q (a + k)
  below-up a zero = let e : a + 0 ≡ a = omega arith in omega (arith, ap (below q) e)
  below-up a (suc k) =
      let e : a + suc k ≡ (a + k) + 1 = omega arith in
      omega (arith, ap (below q) e, below_more q (a + k), below-up a k)

  pub below-mono : (a b : ℕ) → a ≤ b → below q a ≤ below q b
  below-mono a b le = let e : a + (b - a) ≡ b = omega arith in omega (arith, ap (below q) e, below-up a (b - a))

  -- the numbers of two spans, one after the other
  pub joined : (a b c : ℕ) → a ≤ b → b ≤ c → between q a c ≡ between q a b + between q b c
  joined a b c h i = omega (arith, below-mono a b h, below-mono b c i)

  -- one number alone
  pub alone : (n : ℕ) → between q n (n + 1) ≡ q n
  alone n = omega (arith, below_more q n)

  -- a span that has a number: those before it, it, and those after it
  pub parted : (a n b : ℕ) → a ≤ n → n + 1 ≤ b → between q a b ≡ between q a n + (q n + between q (n + 1) b)
  parted a n b h i = omega (arith, joined a n b h (omega arith), joined n (n + 1) b (omega arith) i, alone n)

-- how many numbers there are from a up to b
pub counted : (a b : ℕ) → between (λ _. 1) a b ≡ b - a
counted a b = omega (arith, below-one a, below-one b)

-- numbers that are apart from a span are none of it
pub apart-none : (s : Span) (a b n : ℕ) → IsApart s a b → a ≤ n → n < b → span_weight (is n) s ≤ 0
apart-none s a b n (inl before) low high = omega (
  arith,
  below-is n s.first,
  below-is n s.end,
  once_below-yes n s.first (omega arith),
  once_below-le n s.end,
)
apart-none s a b n (inr after) low high = omega (arith, below-is n s.end, once_below-no n s.end (omega arith))

pub all-apart : (spans : List Span) (a b : ℕ) → All (λ s. IsApart s a b) spans → HasNone spans a b
all-apart spans a b apart n low high =
    let none : sum_by (λ (s : Span). span_weight (is n) s) spans ≤ length spans * 0 =
    sum_by-le (λ (s : Span). span_weight (is n) s) 0 spans
    (λ k d lt. apart-none (get_or spans k d) a b n (apart k d lt) low high) in
    omega arith

-- a span that meets numbers has one of them: the first, or its own first
meets-some : (s : Span) (a b : ℕ) → a < b → Meets s a b →
    (n : ℕ) × (a ≤ n) × (n < b) × (0 < span_weight (is n) s)
meets-some s a b lt meets = (
  max a s.first,
  omega arith,
  omega (arith, meets.0),
  (let some = s.some in omega (
    arith,
    below-is (max a s.first) s.first,
    below-is (max a s.first) s.end,
    once_below-no (max a s.first) s.first (omega arith),
    once_below-yes (max a s.first) s.end (omega (arith, meets.1)),
  )),
)

pub some-meets : (spans : List Span) (a b at : ℕ) → a < b → at < length spans → HoldsAt (λ s. Meets s a b) spans at →
    HasSome spans a b
some-meets (s ∷ ss) a b at lt low meets =
    let some = meets-some (get_or (s ∷ ss) at s) a b lt (meets s) in
    let whole = get_or-le-sum_by (λ (s : Span). span_weight (is some.0) s) (s ∷ ss) at s low in
    (some.0, some.1, some.2, omega (arith, some.3))
some-meets [] a b at lt low meets = absurd (let no : ⊥ = omega arith in no)

not-in : (s : Span) (n : ℕ) → IsNotIn s n → span_weight (is n) s ≤ 0
not-in s n (inl before) = omega (
  arith,
  below-is n s.first,
  below-is n s.end,
  once_below-yes n s.first before,
  once_below-le n s.end,
)
not-in s n (inr after) = omega (arith, below-is n s.end, once_below-no n s.end after)

-- none of the spans has the number
pub none-in : (spans : List Span) (n : ℕ) → All (λ s. IsNotIn s n) spans → weight (is n) spans ≡ 0
none-in spans n none =
    let at-most : sum_by (λ (s : Span). span_weight (is n) s) spans ≤ length spans * 0 =
    sum_by-le (λ (s : Span). span_weight (is n) s) 0 spans (λ k d lt. not-in (get_or spans k d) n (none k d lt)) in
    omega arith

-- one span more at the end
pub one-more : (xs ys : List Span) (s : Span) → ys ≡ xs ++ s ∷ [] → (q : ℕ → ℕ)
    → weight q ys ≡ weight q xs + span_weight q s
one-more xs ys s e q =
    omega (arith, ap (λ (zs : List Span). weight q zs) e, sum_by_push (λ (t : Span). span_weight q t) xs s)

-- a span of one number
pub one-weight : (q : ℕ → ℕ) (s : Span) (n : ℕ) → s.first ≡ n → s.end ≡ n + 1 → span_weight q s ≡ q n
one-weight q s n e f = omega (arith, ap (below q) e, ap (below q) f, alone q n)

-- what holds of the span that was found holds of the one that was taken out
pub found : (P : Span → Type 0) (xs ys : List Span) (at : ℕ) (s : Span) → ys ≡ xs → HoldsAt (λ t. t ≡ s) xs at →
    HoldsAt P ys at → P s
found P xs ys at s same is h = subst P (is s) (subst (λ (zs : List Span). P (get_or zs at s)) same (h s))
