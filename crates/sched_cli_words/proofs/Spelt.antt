-- What the words of a quota spell, and that they spell nothing else.
use Rattle.std.proofs.Common.{◌≡◌, ◌≢◌, inl, inr, ℕ, zero, suc, ◌+◌, ◌*◌, ◌<◌, ◌≤◌, ◌^◌, List, [], ◌∷◌, ◌++◌, length}
use Rattle.std.proofs.Common.{Option, Some, None, Result, Ok, Err, MatchOption, refl, sym, ◌∙◌, ap, subst, arith}
use Rattle.std.specs.Prelude.{codes}
use Rattle.std.specs.Option.{SomeIff}
use Rattle.std.specs.Result.{result_ok}
use Rattle.std.specs.Str.Parse.{ParsesUnsigned, digits_value, without_leading_plus}
use Rattle.sched_time.specs.declared.numbers.TheConstants.{FAR}
use Rattle.sched_ticket_quota.specs.Held.{AreTerms}
use Rattle.sched_ticket_quota.specs.declared.view.Terms.{Terms}
use Rattle.sched_cli_words.specs.QuotaSpelling.{NoneBelow, NoShareAndPeriod, NoUnit, NoTerms, IsNumber, IsTenths, whole}
use Rattle.sched_cli_words.specs.QuotaSpelling.{decimal, units, EndsInUnit, IsPeriod, AreShareAndPeriod, Spells, Has}
use Rattle.sched_cli_words.specs.QuotaSpelling.{Lacks, front, rest, until, EndsIn}

-- ---- numbers

same_number : (word : List ℕ) (m n : ℕ) → IsNumber word m → IsNumber word n → m ≡ n
same_number word m n a b = a.value ∙ sym b.value

-- what is parsed is a number, and what is not parsed is none below 2 ^ 64
pub number_read : {E : Type 0} (word : List ℕ) (r : Result ℕ E) → ParsesUnsigned 64 10 word r →
    MatchOption (result_ok r) (NoneBelow (IsNumber word)) (λ n. IsNumber word n)
number_read word (Ok n) parsed = record { digits = parsed.0.0; value = parsed.1 }
number_read word (Err e) parsed = λ n is small.
    let below : digits_value 10 (without_leading_plus word) < 2 ^ 64 = rw (sym is.value) small in
    parsed (is.digits, below)

at_least_once : (n k : ℕ) → 0 < k → n ≤ n * k
at_least_once n zero some = absurd (omega arith)
at_least_once n (suc k) some = omega arith

-- ---- tenths

module _ (word : List ℕ) where
  pub tenths_no_number : Lacks 46 word → NoneBelow (IsNumber word) → NoneBelow (IsTenths word)
  tenths_no_number lacks lack t (whole n same is value) small = lack n is (omega arith)
  tenths_no_number lacks lack t (decimal n d has short is tenth value) small = absurd (omega arith)

  pub tenths_too_many : (n : ℕ) → Lacks 46 word → IsNumber word n → 2 ^ 64 ≤ n * 10 → NoneBelow (IsTenths word)
  tenths_too_many n lacks number many t (whole k same is value) small =
      let one : k ≡ n = same_number word k n is number in
      absurd (omega arith)
  tenths_too_many n lacks number many t (decimal k d has short is tenth value) small = absurd (omega arith)

  pub tenths_no_front : Has 46 word → NoneBelow (IsNumber (front 46 word)) → NoneBelow (IsTenths word)
  tenths_no_front has lack t (whole n lacks is value) small = absurd (omega arith)
  tenths_no_front has lack t (decimal n d same short is tenth value) small = lack n is (omega arith)

  pub tenths_no_tenth : Has 46 word → NoneBelow (IsNumber (rest 46 word)) → NoneBelow (IsTenths word)
  tenths_no_tenth has lack t (whole n lacks is value) small = absurd (omega arith)
  tenths_no_tenth has lack t (decimal n d same short is tenth value) small = lack d tenth (omega arith)

  pub tenths_long : Has 46 word → length (rest 46 word) ≢ 1 → NoneBelow (IsTenths word)
  tenths_long has long t (whole n lacks is value) small = absurd (omega arith)
  tenths_long has long t (decimal n d same short is tenth value) small = long short

  pub tenths_past : (n d : ℕ) → Has 46 word → IsNumber (front 46 word) n → IsNumber (rest 46 word) d
      → 2 ^ 64 ≤ n * 10 + d →
      NoneBelow (IsTenths word)
  tenths_past n d has number digit many t (whole k lacks is value) small = absurd (omega arith)
  tenths_past n d has number digit many t (decimal k c same short is tenth value) small =
      let one : k ≡ n = same_number (front 46 word) k n is number in
      let other : c ≡ d = same_number (rest 46 word) c d tenth digit in
      absurd (omega arith)

  one_tenths : (s t : ℕ) → IsTenths word s → IsTenths word t → s ≡ t
  one_tenths s t (whole m lacks a x) (whole n same b y) =
      let one : m ≡ n = same_number word m n a b in omega arith
  one_tenths s t (whole m lacks a x) (decimal n d has short b tenth y) = absurd (omega arith)
  one_tenths s t (decimal m c has short a tenth x) (whole n lacks b y) = absurd (omega arith)
  one_tenths s t (decimal m c has short a tenth x) (decimal n d same long b digit y) =
      let one : m ≡ n = same_number (front 46 word) m n a b in
      let other : c ≡ d = same_number (rest 46 word) c d tenth digit in
      omega arith

  -- ten times a whole number, where that is no more than 64 bits hold
  pub whole_tenths : (n : ℕ) (r : Option ℕ) → Lacks 46 word → IsNumber word n → SomeIff r (n * 10 < 2 ^ 64) (n * 10) →
      MatchOption r (NoneBelow (IsTenths word)) (IsTenths word)
  whole_tenths n None lacks number past =
      let many : 2 ^ 64 ≤ n * 10 = omega arith in
      tenths_too_many n lacks number many
  whole_tenths n (Some t) lacks number is = whole n lacks number is.1

  -- and with a decimal
  pub decimal_tenths : (n d ten : ℕ) (r : Option ℕ) → Has 46 word → length (rest 46 word) ≡ 1
      → IsNumber (front 46 word) n →
      IsNumber (rest 46 word) d → ten ≡ n * 10 → SomeIff r (ten + d < 2 ^ 64) (ten + d) →
      MatchOption r (NoneBelow (IsTenths word)) (IsTenths word)
  decimal_tenths n d ten None has short number digit is past =
      let many : 2 ^ 64 ≤ ten + d = omega arith in
      tenths_past n d has number digit (omega arith)
  decimal_tenths n d ten (Some t) has short number digit is sum =
      let value = sum.1 in
      decimal n d has short number digit (omega arith)

-- ---- units

pub not_ends : (end text : List ℕ) → ((before : List ℕ) → text ≢ before ++ end) → ¬ (EndsIn end text)
not_ends end text other ends = other (until end text) ends

one_unit : (word : List ℕ) (us : List (List ℕ × ℕ)) (c d : List ℕ) (e f : ℕ) → EndsInUnit word us c e
    → EndsInUnit word us d f →
    (c ≡ d) × (e ≡ f)
one_unit word [] c d e f a b = absurd a
one_unit word (u ∷ us) c d e f (inl a) (inl b) = (a.1 ∙ sym b.1, a.2 ∙ sym b.2)
one_unit word (u ∷ us) c d e f (inl a) (inr b) = absurd (b.0 a.0)
one_unit word (u ∷ us) c d e f (inr a) (inl b) = absurd (a.0 b.0)
one_unit word (u ∷ us) c d e f (inr a) (inr b) = one_unit word us c d e f a.1 b.1

-- each unit is one of some milliseconds
some_millis : (word c : List ℕ) (e : ℕ) → EndsInUnit word units c e → 0 < e
some_millis word c e (inl a) = let is : e ≡ 1 = a.2 in omega arith
some_millis word c e (inr (_, inl a)) = let is : e ≡ 1000 = a.2 in omega arith
some_millis word c e (inr (_, inr (_, inl a))) = let is : e ≡ 60000 = a.2 in omega arith
some_millis word c e (inr (_, inr (_, inr (_, inl a)))) = let is : e ≡ 3600000 = a.2 in omega arith
some_millis word c e (inr (_, inr (_, inr (_, inr (_, inl a))))) = let is : e ≡ 86400000 = a.2 in omega arith
some_millis word c e (inr (_, inr (_, inr (_, inr (_, inr a))))) = absurd a.1

module _ (word : List ℕ) where
  pub ends_in_ms : (c : List ℕ) → EndsIn (codes "ms") word → c ≡ until (codes "ms") word → EndsInUnit word units c 1
  ends_in_ms c ends is = inl (ends, is, refl)

  module _ (no_ms : ¬ (EndsIn (codes "ms") word)) where
    pub ends_in_s : (c : List ℕ) → EndsIn (codes "s") word → c ≡ until (codes "s") word → EndsInUnit word units c 1000
    ends_in_s c ends is = inr (no_ms, inl (ends, is, refl))

    module _ (no_s : ¬ (EndsIn (codes "s") word)) where
      pub ends_in_m : (c : List ℕ) → EndsIn (codes "m") word → c ≡ until (codes "m") word
          → EndsInUnit word units c 60000
      ends_in_m c ends is = inr (no_ms, inr (no_s, inl (ends, is, refl)))

      module _ (no_m : ¬ (EndsIn (codes "m") word)) where
        pub ends_in_h : (c : List ℕ) → EndsIn (codes "h") word → c ≡ until (codes "h") word
            → EndsInUnit word units c 3600000
        ends_in_h c ends is = inr (no_ms, inr (no_s, inr (no_m, inl (ends, is, refl))))

        module _ (no_h : ¬ (EndsIn (codes "h") word)) where
          pub ends_in_d : (c : List ℕ) → EndsIn (codes "d") word → c ≡ until (codes "d") word
              → EndsInUnit word units c 86400000
          ends_in_d c ends is = inr (no_ms, inr (no_s, inr (no_m, inr (no_h, inl (ends, is, refl)))))

          pub ends_in_none : ¬ (EndsIn (codes "d") word) → NoUnit word
          ends_in_none no_d c e (inl a) = no_ms a.0
          ends_in_none no_d c e (inr (_, inl a)) = no_s a.0
          ends_in_none no_d c e (inr (_, inr (_, inl a))) = no_m a.0
          ends_in_none no_d c e (inr (_, inr (_, inr (_, inl a)))) = no_h a.0
          ends_in_none no_d c e (inr (_, inr (_, inr (_, inr (_, inl a))))) = no_d a.0
          ends_in_none no_d c e (inr (_, inr (_, inr (_, inr (_, inr a))))) = absurd a.1

-- ---- periods

module _ (word : List ℕ) where
  pub period_no_unit : NoUnit word → NoneBelow (IsPeriod word)
  period_no_unit nothing p is small = nothing is.count is.each is.unit

  module _ (c : List ℕ) (e : ℕ) (unit : EndsInUnit word units c e) where
    counted : (p : ℕ) (is : IsPeriod word p) → IsNumber c is.n × (p ≡ is.n * e)
    counted p is =
        let one = one_unit word units is.count c is.each e is.unit unit in
        (subst (λ w. IsNumber w is.n) one.0 is.number, is.value ∙ ap (λ k. is.n * k) one.1)

    pub period_no_number : NoneBelow (IsNumber c) → NoneBelow (IsPeriod word)
    period_no_number nothing p is small =
        let has = counted p is in
        let value = has.1 in
        let fewer : is.n ≤ is.n * e = at_least_once is.n e (some_millis word c e unit) in
        nothing is.n has.0 (omega arith)

    pub period_past : (n : ℕ) → IsNumber c n → 2 ^ 64 ≤ n * e → NoneBelow (IsPeriod word)
    period_past n number many p is small =
        let has = counted p is in
        let same : p ≡ n * e = has.1 ∙ ap (λ k. k * e) (same_number c is.n n has.0 number) in
        omega arith

    pub period_is : (n p : ℕ) → IsNumber c n → p ≡ n * e → IsPeriod word p
    period_is n p is value = record { count = c; each = e; n = n; unit = unit; number = is; value = value }

  one_period : (p q : ℕ) → IsPeriod word p → IsPeriod word q → p ≡ q
  one_period p q a b =
      let has = counted b.count b.each b.unit p a in
      has.1 ∙ ap (λ k. k * b.each) (same_number b.count a.n b.n has.0 b.number) ∙ sym b.value

-- ---- shares and periods

module _ (share period : List ℕ) where
  pub no_tenths : EndsIn (codes "%") share → NoneBelow (IsTenths (until (codes "%") share))
      → NoShareAndPeriod share period
  no_tenths ends lack s p (inl is) small short = lack s is.1 small
  no_tenths ends lack s p (inr is) small short = is.0 ends

  pub no_period : EndsIn (codes "%") share → NoneBelow (IsPeriod period) → NoShareAndPeriod share period
  no_period ends lack s p (inl is) small short = lack p is.2 short
  no_period ends lack s p (inr is) small short = is.0 ends

  pub no_thousandths : ¬ (EndsIn (codes "%") share) → NoneBelow (IsNumber share) → NoShareAndPeriod share period
  no_thousandths other lack s p (inl is) small short = other is.0
  no_thousandths other lack s p (inr is) small short = lack s is.1 small

  pub no_millis : ¬ (EndsIn (codes "%") share) → NoneBelow (IsNumber period) → NoShareAndPeriod share period
  no_millis other lack s p (inl is) small short = other is.0
  no_millis other lack s p (inr is) small short = lack p is.2 short

  pub percents : (s p : ℕ) → EndsIn (codes "%") share → IsTenths (until (codes "%") share) s → IsPeriod period p
      → AreShareAndPeriod share period s p
  percents s p ends tenths millis = inl (ends, tenths, millis)

  pub thousandths : (s p : ℕ) → ¬ (EndsIn (codes "%") share) → IsNumber share s → IsNumber period p
      → AreShareAndPeriod share period s p
  thousandths s p other number millis = inr (other, number, millis)

  one_share_and_period : (s t p q : ℕ) → AreShareAndPeriod share period s p → AreShareAndPeriod share period t q
      → (s ≡ t) × (p ≡ q)
  one_share_and_period s t p q (inl a) (inl b) =
      (one_tenths (until (codes "%") share) s t a.1 b.1, one_period period p q a.2 b.2)
  one_share_and_period s t p q (inl a) (inr b) = absurd (b.0 a.0)
  one_share_and_period s t p q (inr a) (inl b) = absurd (a.0 b.0)
  one_share_and_period s t p q (inr a) (inr b) = (same_number share s t a.1 b.1, same_number period p q a.2 b.2)

-- ---- terms

module _ (text : List ℕ) where
  -- what is true of the rest as it was read
  pub moved : (others : List ℕ) → others ≡ rest 47 text →
      (Has 47 others → Has 47 (rest 47 text)) × (front 47 others ≡ front 47 (rest 47 text))
      × (rest 47 others ≡ rest 47 (rest 47 text))
  moved others is = (subst (λ w. Has 47 w) is, ap (λ w. front 47 w) is, ap (λ w. rest 47 w) is)

  pub no_first : Lacks 47 text → NoTerms text
  no_first lacks t is ranges far = let has = is.first in omega arith

  pub no_second : Lacks 47 (rest 47 text) → NoTerms text
  no_second lacks t is ranges far = let has = is.second in omega arith

  pub no_reserve : NoneBelow (IsNumber (front 47 text)) → NoTerms text
  no_reserve lack t is ranges far = let few = ranges.reserve in lack t.reserve is.reserve (omega arith)

  pub no_others : NoShareAndPeriod (front 47 (rest 47 text)) (rest 47 (rest 47 text)) → NoTerms text
  no_others lack t is ranges far =
      let few = ranges.share in lack t.share t.period is.others (omega arith) (omega arith)

  module _ (r s p : ℕ) (reserve : IsNumber (front 47 text) r)
      (others : AreShareAndPeriod (front 47 (rest 47 text)) (rest 47 (rest 47 text)) s p) where
    -- terms that lie in their ranges have these numbers
    only : (t : Terms) → Spells text t → AreTerms t → t.period ≤ FAR
        → (r ≤ 4294967296) × (s ≤ 1000000) × (100 ≤ p) × (p ≤ FAR)
    only t is ranges far =
        let one = same_number (front 47 text) r t.reserve reserve is.reserve in
        let same = one_share_and_period (front 47 (rest 47 text))
        (rest 47 (rest 47 text)) s t.share p t.period others is.others in
        (rw one ranges.reserve, rw same.0 ranges.share, rw same.1 ranges.period, rw same.1 far)

    pub reserve_past : 4294967296 < r → NoTerms text
    reserve_past past t is ranges far = let within = (only t is ranges far).0 in omega arith

    pub share_past : 1000000 < s → NoTerms text
    share_past past t is ranges far = let within = (only t is ranges far).1 in omega arith

    pub period_short : p < 100 → NoTerms text
    period_short short t is ranges far = let within = (only t is ranges far).2 in omega arith

    pub period_far : FAR < p → NoTerms text
    period_far past t is ranges far = let within = (only t is ranges far).3 in omega arith

-- ---- by what is read

pub ruleset of_tenths = (tenths_no_number, tenths_too_many, tenths_long, tenths_no_front, tenths_no_tenth, tenths_past)

pub ruleset of_units = (ends_in_ms, ends_in_s, ends_in_m, ends_in_h, ends_in_d, ends_in_none)

pub ruleset of_periods = (period_no_unit, period_no_number, period_past, period_is)

pub ruleset of_shares = (percents, thousandths, no_tenths, no_period, no_thousandths, no_millis)

pub ruleset of_terms = (no_first, no_second, no_reserve, no_others, period_far, reserve_past, share_past, period_short)
