-- Worked rows of the limits on requests in flight, computed with the definitions alone.
use Rattle.std.specs.Prelude.{◌≡◌, ◌+◌, Ok, Err}
use Rattle.std.proofs.Common.{refl, arith}
use Rattle.sched_limit.specs.Adaptive.{adaptive_first, inside_of, level_of}
use Rattle.sched_limit.specs.Kinds.{adaptive_rules, flight_rules}
use Rattle.sched_limit.specs.Step.{Rules, Step, step, nothing}
use Rattle.sched_limit.specs.declared.adaptive.Adaptive.{Adaptive}
use Rattle.sched_limit.specs.declared.refusal.Refusal.TheVariants.{TooMany}
use Rattle.sched_limit.specs.declared.request.Told.TheVariants.{Admit, Failed, Succeeded, Ended}

-- two requests in flight at most
abbrev two_at_once : Rules
two_at_once = flight_rules (record { least = 3; share = 200; most = 2 })

abbrev first : Step
first = step two_at_once (Admit 0) 0 nothing 0

abbrev second : Step
second = step two_at_once (Admit 0) 0 nothing first.word

abbrev third : Step
third = step two_at_once (Admit 0) 0 nothing second.word

abbrev over : Step
over = step two_at_once Ended 0 first.request third.word

two_of_three : (first.answer ≡ Ok tt) × (second.answer ≡ Ok tt) × (third.answer ≡ Err TooMany)
two_of_three = (refl, refl, refl)

the_third : (step two_at_once (Admit 1) 0 third.request over.word).answer ≡ Ok tt
the_third = refl

-- from one to ten requests, at first two, of which a failure leaves nine tenths
abbrev one_to_ten : Adaptive
one_to_ten = record {
  least = 1;
  most = 10;
  first = 2;
  backoff = 900;
  levels = record { some = omega arith; above = omega arith; below = omega arith; few = omega arith };
  share = (omega arith, omega arith);
}

abbrev adaptive : Rules
adaptive = adaptive_rules one_to_ten

abbrev comes : Step
comes = step adaptive (Admit 0) 0 nothing (adaptive_first one_to_ten)

abbrev joins : Step
joins = step adaptive (Admit 0) 0 nothing comes.word

abbrev waits : Step
waits = step adaptive (Admit 0) 0 nothing joins.word

two_are_admitted : (comes.answer ≡ Ok tt) × (joins.answer ≡ Ok tt) × (waits.answer ≡ Err TooMany)
two_are_admitted = (refl, refl, refl)

abbrev succeeds : Step
succeeds = step adaptive (Succeeded 1) 0 comes.request waits.word

abbrev leaves : Step
leaves = step adaptive Ended 0 succeeds.request succeeds.word

abbrev fails : Step
fails = step adaptive (Failed 2) 0 joins.request leaves.word

abbrev empty : Step
empty = step adaptive Ended 0 fails.request fails.word

rises : (level_of succeeds.word ≡ 2500) × (inside_of succeeds.word ≡ 2) × (leaves.word ≡ 4294967296 + 2500)
rises = (refl, refl, refl)

falls : (fails.word ≡ 4294967296 + 2250) × (empty.word ≡ 2250)
falls = (refl, refl)
