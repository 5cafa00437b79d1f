-- What becomes of a call, as a relation and as a function.
use Rattle.std.proofs.Common.{◌≡◌, ℕ, zero, suc, ◌+◌, ◌<◌, ◌≤◌, Bool, true, false, cond, refl, sym}
use Rattle.std.proofs.Common.{subst, inl, inr, arith, leb-true, leb-false, ltb-true, ltb-false}
use Rattle.std.proofs.lemmas.Bool.{cases_lt}
use Rattle.std.specs.Prelude.{nat_le, nat_lt, MatchBool}
use Rattle.sched_storm.proofs.Peer.{done_rises}
use Rattle.sched_storm_report.specs.Peer.{none_busy}
use Rattle.sched_storm_report.specs.declared.moments.Failure.TheVariants.{Refused, Shed, Late}
use Rattle.sched_storm.specs.Calls.{can_be_done, ahead, is_full, busy_with, IsDoneAt, Fails, IsTaken, IsCalled}
use Rattle.sched_storm.specs.Calls.{done_from, taken, is_away, called_at, AreFew}
use Rattle.sched_storm.specs.declared.parameters.Parameters.{Parameters}
use Rattle.sched_storm.specs.declared.calls.CallEnd.TheVariants.{Succeeded, Failed}
use Rattle.sched_storm.specs.declared.calls.Called.{Called}

done_now_or_later : (p : Parameters) (units m n t : ℕ) → IsDoneAt p units m → t ≤ m →
    (t + 1 ≤ m → done_from p units n (t + 1) ≡ m) → (b : Bool) → nat_le units (can_be_done p t) ≡ b →
    cond b t (done_from p units n (t + 1)) ≡ m
done_now_or_later p units m n t h low later true e =
    let done = leb-true units (can_be_done p t) e in
    let least = h.least t in
    elim (cases_lt t m) [
      | inl k ↦ absurd (let under = least k in omega arith)
      | inr k ↦
          (let same : t ≡ m = omega arith in same)
    ]
done_now_or_later p units m n t h low later false e =
    let undone = leb-false units (can_be_done p t) e in
    let done = h.done in
    let after : t < m = elim (cases_lt t m) [ inl k ↦ k | inr k ↦ (let rise = done_rises p m t k in omega arith) ] in
    later (omega arith)

-- the first moment at which so many units can have been done is the least
pub done_at : (p : Parameters) (units m n t : ℕ) → IsDoneAt p units m → t ≤ m → m ≤ t + n → done_from p units n t ≡ m
unfolding done_from
done_at p units m zero t h low high = omega arith
done_at p units m (suc n) t h low high =
    done_now_or_later p units m n t h low (λ k. done_at p units m n (t + 1) h k (omega arith))
    (nat_le units (can_be_done p t)) refl

-- what is done by a moment is done no later than the least moment at which it can be
done_by : (p : Parameters) (units m t : ℕ) → IsDoneAt p units m → units ≤ can_be_done p t → m ≤ t
done_by p units m t h done = elim (cases_lt t m) [ inl k ↦ (let least = h.least t k in omega arith) | inr k ↦ k ]

-- it is not done before work that was not done
done_after : (p : Parameters) (units m t : ℕ) → IsDoneAt p units m → can_be_done p t < units → t ≤ m
done_after p units m t h undone =
    let done = h.done in
    elim (cases_lt m t) [ inl k ↦ (let rise = done_rises p m t (omega arith) in omega arith) | inr k ↦ k ]

taken_if : (p : Parameters) (busy t : ℕ) (c : Called) → IsTaken p busy t c → (b : Bool) →
    nat_lt (can_be_done p (t + p.patience)) (busy_with p busy t) ≡ b →
    c ≡ cond b (record { busy = busy_with p busy t; ends = t + p.patience; how = Failed Late })
    (record { busy = busy_with p busy t; ends = done_from p (busy_with p busy t) p.patience t; how = Succeeded })
taken_if p busy t c h true e =
    let busy_is = h.busy_is in
    let late = ltb-true (can_be_done p (t + p.patience)) (busy_with p busy t) e in
    let both = h.late (omega arith) in
    λ i. record { busy = busy_is i; ends = both.1 i; how = both.0 i }
taken_if p busy t c h false e =
    let busy_is = h.busy_is in
    let in_time = ltb-false (can_be_done p (t + p.patience)) (busy_with p busy t) e in
    let both = h.in_time (omega arith) in
    let at : IsDoneAt p (busy_with p busy t) c.ends = subst (λ u. IsDoneAt p u c.ends) busy_is both.1 in
    let low = done_after p (busy_with p busy t) c.ends t at (omega arith) in
    let high = done_by p (busy_with p busy t) c.ends (t + p.patience) at in_time in
    let ends = done_at p (busy_with p busy t) c.ends p.patience t at low high in
    λ i. record { busy = busy_is i; ends = sym ends i; how = both.0 i }

full_if : (p : Parameters) (busy t : ℕ) (c : Called) → (b : Bool) →
    MatchBool b (Fails Shed busy t c) (IsTaken p busy t c) →
    c ≡ cond b (record { busy = busy; ends = t; how = Failed Shed }) (taken p (busy_with p busy t) t)
full_if p busy t c true h = h
full_if p busy t c false h = taken_if p busy t c h (nat_lt (can_be_done p (t + p.patience)) (busy_with p busy t)) refl

away_if : (p : Parameters) (busy t : ℕ) (c : Called) → (b f : Bool) →
    MatchBool b (Fails Refused busy t c) (MatchBool f (Fails Shed busy t c) (IsTaken p busy t c)) →
    c ≡ cond b (record { busy = busy; ends = t; how = Failed Refused })
    (cond f (record { busy = busy; ends = t; how = Failed Shed }) (taken p (busy_with p busy t) t))
away_if p busy t c true f h = h
away_if p busy t c false f h = full_if p busy t c f h

-- the relation has one answer
pub called_is : (p : Parameters) (replica busy t : ℕ) (c : Called) → IsCalled p replica busy t c →
    c ≡ called_at p replica busy t
unfolding called_at
called_is p replica busy t c h = away_if p busy t c (is_away p replica t) (is_full p (ahead p busy t)) h

-- before the first call no replica has work
pub few_none : AreFew none_busy
few_none = record { first = omega arith; second = omega arith; third = omega arith; fourth = omega arith }
