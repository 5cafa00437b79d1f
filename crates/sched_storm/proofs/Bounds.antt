-- Requests that are counted and tickets that are drawn keep the bounds on tickets.
use Rattle.std.proofs.Common.{◌≡◌, ℕ, ◌+◌, ◌*◌, ◌/◌, ◌<◌, ◌≤◌, Bool, true, false, cond, refl, ap, ◌∙◌}
use Rattle.std.proofs.Common.{arith, ltb-true}
use native.Mathlib.Nat.{div-mul-le_self, mul-add}
use Rattle.std.proofs.lemmas.Nat.{mul-le, le-div}
use Rattle.std.specs.Prelude.{nat_lt}
use Rattle.sched_ticket_quota.specs.declared.view.Terms.{Terms}
use Rattle.sched_ticket_quota.specs.Held.{AreTerms}
use Rattle.sched_ticket_quota.specs.Windows.{allowed}
use Rattle.sched_storm_limit.specs.Ranges.{AreDraws, has_draws}
use Rattle.sched_storm.specs.Tickets.{asked_of, given_of, turned, at_moment, with_request, counted}
use Rattle.sched_storm.specs.Tickets.{may_draw, with_ticket, draw_at}
use Rattle.sched_storm.specs.Tickets.{tickets_of, IsLawful, AreFew}
use Rattle.sched_storm_limit.specs.declared.draws.Draws.{Draws}
use Rattle.sched_storm_limit.specs.declared.draws.Draws.TheVariants.{Nothing, Budget, Quota, Limited}
use Rattle.sched_storm.specs.declared.tickets.Drawn.{Drawn}

-- ---- numbers

quotient_rises : (k a b : ℕ) → 0 < k → a ≤ b → a / k ≤ b / k
quotient_rises k a b some h = le-div (a / k) b k some (omega (arith, div-mul-le_self a k, h))

allowed_rises : (k : Terms) (n : ℕ) → allowed k n ≤ allowed k (n + 1)
allowed_rises k n =
    let more = quotient_rises 1000 (k.share * n) (k.share * (n + 1)) (omega arith)
    (mul-le k.share n k.share (n + 1) (omega arith) (omega arith)) in
    omega arith

-- a window's tickets are at most its reserve and its requests' share
allowed-le : (k : Terms) (n : ℕ) → 1000 * allowed k n ≤ 1000 * k.reserve + k.share * n
allowed-le k n = let whole = div-mul-le_self (k.share * n) 1000 in omega arith

-- ---- sums

turned_asked : (w : ℕ) (d : Drawn) → asked_of (turned w d) ≡ asked_of d
turned_asked w d = elim (nat_lt d.window w) as
    (λ b. asked_of (cond b
    (record { window = w; asked_before = asked_of d; given_before = given_of d; asked = 0; given = 0 }) d)
    ≡ asked_of d) [ true ↦ omega arith | false ↦ refl ]

turned_given : (w : ℕ) (d : Drawn) → given_of (turned w d) ≡ given_of d
turned_given w d = elim (nat_lt d.window w) as
    (λ b. given_of (cond b
    (record { window = w; asked_before = asked_of d; given_before = given_of d; asked = 0; given = 0 }) d)
    ≡ given_of d) [ true ↦ omega arith | false ↦ refl ]

pub moment_asked : (draws : Draws) (t : ℕ) (d : Drawn) → asked_of (at_moment draws t d) ≡ asked_of d
moment_asked Nothing t d = refl
moment_asked (Budget limit) t d = refl
moment_asked (Quota terms) t d = turned_asked (t / terms.period) d
moment_asked (Limited limit) t d = refl

pub moment_given : (draws : Draws) (t : ℕ) (d : Drawn) → given_of (at_moment draws t d) ≡ given_of d
moment_given Nothing t d = refl
moment_given (Budget limit) t d = refl
moment_given (Quota terms) t d = turned_given (t / terms.period) d
moment_given (Limited limit) t d = refl

pub counted_asked : (draws : Draws) (t : ℕ) (d : Drawn) →
    asked_of (counted draws t d) ≡ asked_of d + cond (has_draws draws) 1 0
counted_asked Nothing t d = omega arith
counted_asked (Budget limit) t d = omega arith
counted_asked (Quota terms) t d = let same = turned_asked (t / terms.period) d in omega arith
counted_asked (Limited limit) t d = omega arith

pub counted_given : (draws : Draws) (t : ℕ) (d : Drawn) → given_of (counted draws t d) ≡ given_of d
counted_given Nothing t d = refl
counted_given (Budget limit) t d = refl
counted_given (Quota terms) t d = turned_given (t / terms.period) d
counted_given (Limited limit) t d = refl

ticket_asked : (draws : Draws) (d : Drawn) → asked_of (with_ticket draws d) ≡ asked_of d
ticket_asked Nothing d = refl
ticket_asked (Budget limit) d = refl
ticket_asked (Quota terms) d = refl
ticket_asked (Limited limit) d = refl

-- a ticket more, where retries draw on anything
ticket_given : (draws : Draws) (d : Drawn) → given_of (with_ticket draws d) ≡ given_of d + cond (has_draws draws) 1 0
ticket_given Nothing d = omega arith
ticket_given (Budget limit) d = omega arith
ticket_given (Quota terms) d = omega arith
ticket_given (Limited limit) d = omega arith

pub drawn_asked : (draws : Draws) (may : Bool) (t : ℕ) (d : Drawn) → asked_of (draw_at draws may t d).1 ≡ asked_of d
drawn_asked draws may t d =
    let e = at_moment draws t d in
    elim (may_draw draws may e) as (λ b. asked_of (cond b (with_ticket draws e) e) ≡ asked_of d) [
      | true ↦ ticket_asked draws e ∙ moment_asked draws t d
      | false ↦ moment_asked draws t d
    ]

one_given : (draws : Draws) (d : Drawn) → given_of (with_ticket draws d) ≤ given_of d + 1
one_given Nothing d = omega arith
one_given (Budget limit) d = omega arith
one_given (Quota terms) d = omega arith
one_given (Limited limit) d = omega arith

pub drawn_given : (draws : Draws) (may : Bool) (t : ℕ) (d : Drawn) →
    given_of (draw_at draws may t d).1 ≤ given_of d + 1
drawn_given draws may t d =
    let e = at_moment draws t d in
    let same = moment_given draws t d in
    let one = one_given draws e in
    elim (may_draw draws may e) as (λ b. given_of (cond b (with_ticket draws e) e) ≤ given_of d + 1) [
      | true ↦ omega arith
      | false ↦ omega arith
    ]

pub granted_given : (draws : Draws) (may : Bool) (t : ℕ) (d : Drawn) → (draw_at draws may t d).0 ≡ true →
    given_of (draw_at draws may t d).1 ≡ given_of d + cond (has_draws draws) 1 0
granted_given draws may t d is =
    let e = at_moment draws t d in
    rw is (ticket_given draws e ∙ ap (λ n. n + cond (has_draws draws) 1 0) (moment_given draws t d))

pub refused_given : (draws : Draws) (may : Bool) (t : ℕ) (d : Drawn) → (draw_at draws may t d).0 ≡ false →
    given_of (draw_at draws may t d).1 ≡ given_of d
refused_given draws may t d is = rw is (moment_given draws t d)

-- ---- bounds

lawful_turn : (k : Terms) (until t : ℕ) (d : Drawn) → AreTerms k → t ≤ until → d.window < t / k.period →
    IsLawful (Quota k) until d →
    IsLawful (Quota k) until
    (record { window = t / k.period; asked_before = asked_of d; given_before = given_of d; asked = 0; given = 0 })
lawful_turn k until t d terms by later law =
    let here = law.here in
    let before = law.before in
    let most = allowed-le k d.asked in
    let share : k.share * (d.asked_before + d.asked) ≡ k.share * d.asked_before + k.share * d.asked =
    mul-add k.share d.asked_before d.asked in
    let one = mul-add k.reserve d.window 1 in
    let reserve = mul-le k.reserve (d.window + 1) k.reserve (t / k.period) (omega arith) (omega arith) in
    record {
      here = omega arith;
      before = omega arith;
      latest = quotient_rises k.period t until (omega (arith, terms.period)) by;
    }

lawful_turned : (k : Terms) (until t : ℕ) (d : Drawn) → AreTerms k → t ≤ until → IsLawful (Quota k) until d →
    (b : Bool) → nat_lt d.window (t / k.period) ≡ b →
    IsLawful (Quota k) until
    (cond b
    (record { window = t / k.period; asked_before = asked_of d; given_before = given_of d; asked = 0; given = 0 }) d)
lawful_turned k until t d terms by law true e = lawful_turn k until t d terms by (ltb-true _ _ e) law
lawful_turned k until t d terms by law false e = law

lawful_at : (draws : Draws) (until t : ℕ) (d : Drawn) → AreDraws draws → t ≤ until → IsLawful draws until d →
    IsLawful draws until (at_moment draws t d)
lawful_at Nothing until t d ok by law = law
lawful_at (Budget limit) until t d ok by law = law
lawful_at (Quota terms) until t d ok by law = lawful_turned terms until t d ok by law
    (nat_lt d.window (t / terms.period)) refl
lawful_at (Limited limit) until t d ok by law = law

lawful_request : (draws : Draws) (until : ℕ) (d : Drawn) → IsLawful draws until d →
    IsLawful draws until (with_request d)
lawful_request Nothing until d law = record { here = law.here; before = law.before; latest = law.latest }
lawful_request (Budget limit) until d law = record { here = law.here; before = law.before; latest = law.latest }
lawful_request (Quota terms) until d law =
    let more = allowed_rises terms d.asked in
    let here = law.here in
    record { here = omega arith; before = law.before; latest = law.latest }
lawful_request (Limited limit) until d law = record { here = tt; before = law.before; latest = law.latest }

pub lawful_counted : (draws : Draws) (until t : ℕ) (d : Drawn) → AreDraws draws → t ≤ until → IsLawful draws until d →
    IsLawful draws until (counted draws t d)
lawful_counted Nothing until t d ok by law = law
lawful_counted (Budget limit) until t d ok by law = lawful_request (Budget limit) until d law
lawful_counted (Quota terms) until t d ok by law = lawful_request (Quota terms) until (turned (t / terms.period) d)
    (lawful_at (Quota terms) until t d ok by law)
lawful_counted (Limited limit) until t d ok by law = lawful_request (Limited limit) until d law

lawful_ticket : (draws : Draws) (may : Bool) (until : ℕ) (d : Drawn) → may_draw draws may d ≡ true →
    IsLawful draws until d → IsLawful draws until (with_ticket draws d)
lawful_ticket Nothing may until d is law = law
lawful_ticket (Budget limit) may until d is law =
    let room = ltb-true d.given limit is in record { here = omega arith; before = law.before; latest = law.latest }
lawful_ticket (Quota terms) may until d is law =
    let room = ltb-true d.given (allowed terms d.asked) is in
    record { here = omega arith; before = law.before; latest = law.latest }
lawful_ticket (Limited limit) may until d is law = record { here = tt; before = law.before; latest = law.latest }

lawful_drawn_if : (draws : Draws) (may : Bool) (until : ℕ) (d : Drawn) → IsLawful draws until d → (b : Bool) →
    may_draw draws may d ≡ b → IsLawful draws until (cond b (with_ticket draws d) d)
lawful_drawn_if draws may until d law true is = lawful_ticket draws may until d is law
lawful_drawn_if draws may until d law false is = law

pub lawful_drawn : (draws : Draws) (may : Bool) (until t : ℕ) (d : Drawn) → AreDraws draws → t ≤ until →
    IsLawful draws until d → IsLawful draws until (draw_at draws may t d).1
lawful_drawn draws may until t d ok by law =
    let e = at_moment draws t d in
    lawful_drawn_if draws may until e (lawful_at draws until t d ok by law) (may_draw draws may e) refl

-- all tickets together
pub tickets-le : (draws : Draws) (until : ℕ) (d : Drawn) → IsLawful draws until d →
    AreFew draws until (asked_of d) (given_of d)
tickets-le Nothing until d law = let here = law.here in let before = law.before in omega arith
tickets-le (Budget limit) until d law = let here = law.here in let before = law.before in omega arith
tickets-le (Quota k) until d law =
    let here = law.here in
    let before = law.before in
    let latest = law.latest in
    let most = allowed-le k d.asked in
    let share : k.share * (d.asked_before + d.asked) ≡ k.share * d.asked_before + k.share * d.asked =
    mul-add k.share d.asked_before d.asked in
    let one = mul-add k.reserve d.window 1 in
    let reserve = mul-le k.reserve (d.window + 1) k.reserve (until / k.period + 1) (omega arith) (omega arith) in
    omega arith
tickets-le (Limited limit) until d law = tt

-- more requests allow no fewer
pub few_more : (draws : Draws) (until a b g : ℕ) → a ≤ b → AreFew draws until a g → AreFew draws until b g
few_more Nothing until a b g more h = h
few_more (Budget limit) until a b g more h = h
few_more (Quota k) until a b g more h = let rise = mul-le k.share a k.share b (omega arith) more in omega arith
few_more (Limited limit) until a b g more h = tt

-- one retry more that is granted
pub tickets_more : (draws : Draws) (n : ℕ) → tickets_of draws n + cond (has_draws draws) 1 0 ≡ tickets_of draws (n + 1)
tickets_more Nothing n = refl
tickets_more (Budget limit) n = refl
tickets_more (Quota terms) n = refl
tickets_more (Limited limit) n = refl

-- no more tickets than retries were granted
pub tickets_of_le : (draws : Draws) (n : ℕ) → tickets_of draws n ≤ n
tickets_of_le Nothing n = omega arith
tickets_of_le (Budget limit) n = omega arith
tickets_of_le (Quota terms) n = omega arith
tickets_of_le (Limited limit) n = omega arith
