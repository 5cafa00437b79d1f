-- The windows of a quota, each within its reserve and share.
use Rattle.std.proofs.Common.{◌≡◌, ℕ, ◌+◌, ◌/◌, ◌<◌, Bool, true, false, cond, [], ◌∷◌, refl, arith, ltb-true}
use Rattle.std.proofs.lemmas.List.Sums.{sum_by-cons}
use Rattle.std.specs.Prelude.{nat_lt}
use Rattle.sched_ticket_quota.specs.declared.view.Terms.{Terms}
use Rattle.sched_storm.specs.Tickets.{asked_of, given_of, at_moment, counted, may_draw}
use Rattle.sched_storm.specs.Tickets.{with_ticket, draw_at}
use Rattle.sched_storm.specs.Tickets.{Use, HasUses, IsLawful}
use Rattle.sched_storm_limit.specs.declared.draws.Draws.{Draws}
use Rattle.sched_storm_limit.specs.declared.draws.Draws.TheVariants.{Nothing, Budget, Quota, Limited}
use Rattle.sched_storm.specs.declared.tickets.Drawn.{Drawn}

-- the windows before the latest one
abbrev Past : Draws → Drawn → Type 0
Past draws d = HasUses draws d.window d.asked_before d.given_before

pub no_uses : (draws : Draws) → HasUses draws 0 0 0
no_uses Nothing = tt
no_uses (Budget limit) = tt
no_uses (Quota terms) = ([], tt, record { asked_is = refl; given_is = refl })
no_uses (Limited limit) = tt

-- the latest one beside those before it
with_latest : (k : Terms) (d : Drawn) (w until : ℕ) → d.window < w → IsLawful (Quota k) until d → Past (Quota k) d →
    HasUses (Quota k) w (asked_of d) (given_of d)
with_latest k d w until later law past =
    let u : Use = record { window = d.window; asked = d.asked; given = d.given } in
    let more_asked = sum_by-cons (λ (u : Use). u.asked) u past.0 in
    let more_given = sum_by-cons (λ (u : Use). u.given) u past.0 in
    let asked = past.2.asked_is in
    let given = past.2.given_is in (
      u ∷ past.0,
      (later, law.here, past.1),
      record { asked_is = omega arith; given_is = omega arith },
    )

past_turned : (k : Terms) (until w : ℕ) (d : Drawn) → IsLawful (Quota k) until d → Past (Quota k) d →
    (b : Bool) → nat_lt d.window w ≡ b →
    Past (Quota k) (cond b
    (record { window = w; asked_before = asked_of d; given_before = given_of d; asked = 0; given = 0 }) d)
past_turned k until w d law past true e = with_latest k d w until (ltb-true _ _ e) law past
past_turned k until w d law past false e = past

past_at : (draws : Draws) (until t : ℕ) (d : Drawn) → IsLawful draws until d → Past draws d →
    Past draws (at_moment draws t d)
past_at Nothing until t d law past = tt
past_at (Budget limit) until t d law past = tt
past_at (Quota k) until t d law past = past_turned k until (t / k.period) d law past
    (nat_lt d.window (t / k.period)) refl
past_at (Limited limit) until t d law past = tt

pub past_counted : (draws : Draws) (until t : ℕ) (d : Drawn) → IsLawful draws until d → Past draws d →
    Past draws (counted draws t d)
past_counted Nothing until t d law past = tt
past_counted (Budget limit) until t d law past = tt
past_counted (Quota k) until t d law past = past_at (Quota k) until t d law past
past_counted (Limited limit) until t d law past = tt

past_ticket : (draws : Draws) (d : Drawn) → Past draws d → Past draws (with_ticket draws d)
past_ticket Nothing d past = tt
past_ticket (Budget limit) d past = tt
past_ticket (Quota k) d past = past
past_ticket (Limited limit) d past = tt

past_drawn_if : (draws : Draws) (d : Drawn) (b : Bool) → Past draws d → Past draws (cond b (with_ticket draws d) d)
past_drawn_if draws d true past = past_ticket draws d past
past_drawn_if draws d false past = past

pub past_drawn : (draws : Draws) (may : Bool) (until t : ℕ) (d : Drawn) → IsLawful draws until d → Past draws d →
    Past draws (draw_at draws may t d).1
past_drawn draws may until t d law past =
    let e = at_moment draws t d in past_drawn_if draws e (may_draw draws may e) (past_at draws until t d law past)

-- all windows
pub all_uses : (draws : Draws) (until : ℕ) (d : Drawn) → IsLawful draws until d → Past draws d →
    (w : ℕ) × HasUses draws w (asked_of d) (given_of d)
all_uses Nothing until d law past = (0, tt)
all_uses (Budget limit) until d law past = (0, tt)
all_uses (Quota k) until d law past = (d.window + 1, with_latest k d (d.window + 1) until (omega arith) law past)
all_uses (Limited limit) until d law past = (0, tt)
