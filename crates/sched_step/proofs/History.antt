-- A history that grows by one event.
use Rattle.std.proofs.Common.{◌≡◌, ℕ, ◌+◌, ◌-◌, ◌≤◌, List, [], ◌∷◌, ◌++◌, length, nat_lt, sym, ap, arith, le-ltb}
use Rattle.std.proofs.Common.{lt-ltb}
use Rattle.std.proofs.lemmas.List.{length_push, drop_at, drop-append-le}
use Rattle.std.proofs.lemmas.Bool.{cases_lt}
use Rattle.sched_time.specs.Capped.{capped}
use Rattle.sched_time.specs.declared.numbers.TheConstants.{FAR}
use Rattle.sched_plan.specs.History.{repeats}
use Rattle.sched_plan.specs.Answer.{from_end_of}
use Rattle.sched_plan.specs.declared.history.Event.{Event}

-- the events before the new one are those of the history
pub length_before-push : (h : List Event) (e : Event) → length (h ++ e ∷ []) - 1 ≡ length h
length_before-push h e = omega (arith, length_push h e)

pub repeats-push : (h : List Event) (e : Event) → repeats (h ++ e ∷ []) ≡ capped (length h)
repeats-push h e = ap capped (length_before-push h e)

-- a count that stops at FAR counts on
pub capped_count-push : (h : List Event) (e : Event) → capped (capped (length h) + 1) ≡ capped (length (h ++ e ∷ []))
capped_count-push h e = omega (arith, length_push h e)

-- what stops at FAR is below a bound of at most FAR just where the number is
pub capped_below : (n bound : ℕ) → bound ≤ FAR → nat_lt (capped n) bound ≡ nat_lt n bound
capped_below n bound h = grind (arith, cases_lt n bound, le-ltb, lt-ltb)

-- from the last event on there is that event alone
pub from_end_of-itself : (h : List Event) (e : Event) → from_end_of (h ++ e ∷ []) (h ++ e ∷ []) ≡ e ∷ []
from_end_of-itself h e = drop_at h (e ∷ []) (length (h ++ e ∷ []) - 1) (sym (length_before-push h e))

-- the events from the last one of an earlier prefix on grow by the new one
pub from_end_of-push : (p h : List Event) (e : Event) → length p ≤ length h →
    from_end_of p (h ++ e ∷ []) ≡ from_end_of p h ++ e ∷ []
from_end_of-push p h e short = drop-append-le (length p - 1) h (e ∷ []) (omega arith)
