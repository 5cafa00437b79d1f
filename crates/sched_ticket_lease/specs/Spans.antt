-- Sets of numbers as spans, weighed: two sets that weigh the same under every `q` have the same numbers, each as often.
use Rattle.std.specs.Prelude.{◌≡◌, ℕ, ◌+◌, ◌-◌, ◌≤◌, ◌<◌, ◌⊎◌, min, List, [], ◌∷◌, ◌++◌, sum_by}
use Rattle.sched_ticket.specs.Lists.{below, is}
use Rattle.sched_ticket_lease.specs.declared.span.Span.{Span}

-- what the numbers from a up to b, without b, weigh
abbrev pub between : (ℕ → ℕ) → ℕ → ℕ → ℕ
between q a b = below q b - below q a

-- what the numbers of a span weigh
abbrev pub span_weight : (ℕ → ℕ) → Span → ℕ
span_weight q s = between q s.first s.end

-- what the numbers of these spans weigh
abbrev pub weight : (ℕ → ℕ) → List Span → ℕ
weight q spans = sum_by (λ (s : Span). span_weight q s) spans

-- a span has one of the numbers from a up to b, or none
abbrev pub Meets : Span → ℕ → ℕ → Type 0
Meets s a b = (s.first < b) × (a < s.end)

abbrev pub IsApart : Span → ℕ → ℕ → Type 0
IsApart s a b = (b ≤ s.first) ⊎ (s.end ≤ a)

-- a span has this number, or does not
abbrev pub IsIn : Span → ℕ → Type 0
IsIn s n = (s.first ≤ n) × (n < s.end)

abbrev pub IsNotIn : Span → ℕ → Type 0
IsNotIn s n = (n < s.first) ⊎ (s.end ≤ n)

-- the spans have none of the numbers from a up to b
abbrev pub HasNone : List Span → ℕ → ℕ → Type 0
HasNone spans a b = (n : ℕ) → a ≤ n → n < b → weight (is n) spans ≡ 0

-- the spans have one of the numbers from a up to b
abbrev pub HasSome : List Span → ℕ → ℕ → Type 0
HasSome spans a b = (n : ℕ) × (a ≤ n) × (n < b) × (0 < weight (is n) spans)

-- this number is moved from one set, the first, to another
abbrev pub Moves : ℕ → List Span → List Span → List Span → List Span → Type 0
Moves n from to less more =
    ((q : ℕ → ℕ) → weight q from ≡ q n + weight q less) × ((q : ℕ → ℕ) → weight q more ≡ weight q to + q n)

-- s is the first numbers of the last of these spans: as many as are asked for, or all that it has
pub record IsTakenOf (most : ℕ) (spans : List Span) (s : Span) : Type 0 where
  pub front : List Span
  pub last : Span
  pub is : spans ≡ front ++ last ∷ []
  pub first : s.first ≡ last.first
  pub many : s.end - s.first ≡ min most (last.end - last.first)
