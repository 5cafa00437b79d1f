-- How a quota is spelt: `10/20%/60s` with units, or `10/200/60000` without.
use Rattle.std.specs.Prelude.{◌≡◌, ◌⊎◌, ℕ, ◌+◌, ◌*◌, ◌-◌, ◌<◌, ◌≤◌, ◌^◌, ◌==◌, List, [], ◌∷◌, ◌++◌, length, take, codes}
use Rattle.std.specs.List.{position_or_len, before_first, after_first}
use Rattle.std.specs.Str.Parse.{IsNumeral, digits_value, without_leading_plus}
use Rattle.sched_time.specs.declared.numbers.TheConstants.{FAR}
use Rattle.sched_ticket_quota.specs.Held.{AreTerms}
use Rattle.sched_ticket_quota.specs.declared.view.Terms.{Terms}

-- a whole number in digits, before which a plus may stand
pub record IsNumber (word : List ℕ) (n : ℕ) : Type 0 where
  pub digits : IsNumeral 10 (without_leading_plus word)
  pub value : n ≡ digits_value 10 (without_leading_plus word)

-- the text has this character, and what stands before the first one and after it
abbrev pub Has : ℕ → List ℕ → Type 0
Has c text = position_or_len (λ b. b == c) text < length text

abbrev pub Lacks : ℕ → List ℕ → Type 0
Lacks c text = position_or_len (λ b. b == c) text ≡ length text

abbrev pub front : ℕ → List ℕ → List ℕ
front c text = before_first (λ b. b == c) text

abbrev pub rest : ℕ → List ℕ → List ℕ
rest c text = after_first (λ b. b == c) text

-- the text ends in this one, and what stands before it
abbrev pub until : List ℕ → List ℕ → List ℕ
until end text = take (length text - length end) text

abbrev pub EndsIn : List ℕ → List ℕ → Type 0
EndsIn end text = text ≡ until end text ++ end

-- a number with at most one decimal, in tenths: `20` is 200, and `24.9` is 249 (the code of a point is 46)
pub data IsTenths (word : List ℕ) (tenths : ℕ) : Type 0 where
  whole : (n : ℕ) → Lacks 46 word → IsNumber word n → tenths ≡ n * 10 → IsTenths word tenths
  decimal : (n d : ℕ) → Has 46 word → length (rest 46 word) ≡ 1 → IsNumber (front 46 word) n → IsNumber (rest 46 word) d
      → tenths ≡ n * 10 + d → IsTenths word tenths

-- units of time with their milliseconds; ms stands before s, in which it ends too
abbrev pub units : List (List ℕ × ℕ)
units = (codes "ms", 1) ∷ (codes "s", 1000) ∷ (codes "m", 60000) ∷ (codes "h", 3600000) ∷ (codes "d", 86400000) ∷ []

-- the first of these units in which the word ends is one of so many milliseconds, and this stands before it
abbrev pub EndsInUnit : List ℕ → List (List ℕ × ℕ) → List ℕ → ℕ → Type 0
EndsInUnit word [] count each = ⊥
EndsInUnit word (u ∷ us) count each = (EndsIn u.0 word × (count ≡ until u.0 word) × (each ≡ u.1))
    ⊎ ((¬ (EndsIn u.0 word)) × EndsInUnit word us count each)

-- a whole number and its unit, in milliseconds
pub record IsPeriod (word : List ℕ) (millis : ℕ) : Type 0 where
  pub count : List ℕ
  pub each : ℕ
  pub n : ℕ
  pub unit : EndsInUnit word units count each
  pub number : IsNumber count n
  pub value : millis ≡ n * each

-- a share and a period: hundredths and a unit, or thousandths and milliseconds
abbrev pub AreShareAndPeriod : List ℕ → List ℕ → ℕ → ℕ → Type 0
AreShareAndPeriod share period thousandths millis =
    (EndsIn (codes "%") share × IsTenths (until (codes "%") share) thousandths × IsPeriod period millis)
    ⊎ ((¬ (EndsIn (codes "%") share)) × IsNumber share thousandths × IsNumber period millis)

-- the text spells these terms: RESERVE/SHARE/PERIOD (the code of `/` is 47)
pub record Spells (text : List ℕ) (terms : Terms) : Type 0 where
  pub first : Has 47 text
  pub second : Has 47 (rest 47 text)
  pub reserve : IsNumber (front 47 text) terms.reserve
  pub others : AreShareAndPeriod (front 47 (rest 47 text)) (rest 47 (rest 47 text)) terms.share terms.period

-- P is true of no number below 2 ^ 64
abbrev pub NoneBelow : (ℕ → Type 0) → Type 0
NoneBelow P = (n : ℕ) → P n → n < 2 ^ 64 → ⊥

abbrev pub NoShareAndPeriod : List ℕ → List ℕ → Type 0
NoShareAndPeriod share period = (s p : ℕ) → AreShareAndPeriod share period s p → s < 2 ^ 64 → p < 2 ^ 64 → ⊥

abbrev pub NoUnit : List ℕ → Type 0
NoUnit word = (count : List ℕ) (each : ℕ) → EndsInUnit word units count each → ⊥

-- the text spells no terms that lie in their ranges
abbrev pub NoTerms : List ℕ → Type 0
NoTerms text = (terms : Terms) → Spells text terms → AreTerms terms → terms.period ≤ FAR → ⊥
