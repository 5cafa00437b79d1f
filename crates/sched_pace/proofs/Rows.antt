-- Worked rows of a pace, computed with the definitions alone.
use Rattle.std.specs.Prelude.{◌≡◌, ℕ}
use Rattle.std.proofs.Common.{refl, arith}
use Rattle.sched_limit_word.specs.declared.call.Call.TheVariants.{Draw, Returned}
use Rattle.sched_pace.specs.Pace.{took, pace_next}
use Rattle.sched_pace.specs.declared.pace.Pace.{Pace}
use Rattle.sched_pace.specs.declared.taken.Taken.TheVariants.{Granted, TooSoon}

-- ten a second, three at once, and no wait longer than 250 ms
abbrev ten : Pace
ten = record {
  each = 100000;
  burst = 3;
  longest = 250;
  is_each = (omega arith, omega arith);
  is_burst = (omega arith, omega arith);
  is_longest = omega arith;
}

-- the word after a take, and after a take of this mark came back
abbrev asks : Pace → ℕ → ℕ → ℕ
asks p now due = pace_next p (Draw now 1 0) due

abbrev back : ℕ → ℕ → ℕ
back mark due = pace_next ten (Returned 1 mark) due

three_at_once : (took ten 0 1 0 ≡ Granted 0 100000) × (took ten 0 1 100000 ≡ Granted 0 200000)
    × (took ten 0 1 200000 ≡ Granted 0 300000)
three_at_once = (refl, refl, refl)

then_one_each : (took ten 0 1 300000 ≡ Granted 100 400000) × (took ten 0 1 400000 ≡ Granted 200 500000)
    × (took ten 0 1 500000 ≡ TooSoon 50)
then_one_each = (refl, refl, refl)

abbrev five : ℕ
five = asks ten 0 (asks ten 0 (asks ten 0 (asks ten 0 (asks ten 0 0))))

five_and_no_more : (five ≡ 500000) × (asks ten 0 five ≡ five)
five_and_no_more = (refl, refl)

at_fifty : (took ten 50 1 five ≡ Granted 300 600000) × (took ten 50 1 (asks ten 50 five) ≡ TooSoon 150)
at_fifty = (refl, refl)

-- the take that begins at 200 is not the last one
not_the_last : back 500000 (asks ten 50 five) ≡ 600000
not_the_last = refl

the_last : (took ten 150 1 600000 ≡ Granted 400 700000) × (back 700000 (asks ten 150 600000) ≡ 600000)
    × (took ten 150 1 (back 700000 (asks ten 150 600000)) ≡ Granted 400 700000)
the_last = (refl, refl, refl)

after_a_pause : took ten 5000 1 700000 ≡ Granted 5000 5100000
after_a_pause = refl

-- three a second, one at once
abbrev third : Pace
third = record {
  each = 333333;
  burst = 1;
  longest = 1000000;
  is_each = (omega arith, omega arith);
  is_burst = (omega arith, omega arith);
  is_longest = omega arith;
}

rounded_up : (took third 0 1 0 ≡ Granted 0 333333) × (took third 0 1 333333 ≡ Granted 334 666666)
    × (took third 0 1 666666 ≡ Granted 667 999999) × (took third 0 1 999999 ≡ Granted 1000 1333332)
rounded_up = (refl, refl, refl, refl)
