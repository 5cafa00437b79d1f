-- The pace as a sequential machine. Its word is `due`, in microseconds since moment 0: up to there, the calls so far
-- use the rate up.
use Rattle.std.specs.Prelude.{ℕ, ◌+◌, ◌-◌, ◌*◌, ◌==◌, ◌&&◌, min, max, Bool, if◌then◌else◌, nat_lt, nat_le}
use Rattle.std.specs.Int.{div_ceil}
use Rattle.sched_limit_word.specs.declared.call.Call.{Call}
use Rattle.sched_limit_word.specs.declared.call.Call.TheVariants.{Admit, Draw, Failed, Succeeded, Ended, Returned}
use Rattle.sched_limit_word.specs.declared.call.Call.TheVariants.{Closed, OpenedByHand, ClosedByHand}
use Rattle.sched_pace.specs.declared.pace.Pace.{Pace}
use Rattle.sched_pace.specs.declared.taken.Taken.{Taken}
use Rattle.sched_pace.specs.declared.taken.Taken.TheVariants.{Granted, TooSoon, NoCost}

-- a moment on the pace's clock, which stands still at its end
abbrev pub clock : ℕ → ℕ
clock now = min now 2251799813685247

-- there are calls of this cost
abbrev pub is_cost : Pace → ℕ → Bool
is_cost p cost = nat_lt 0 cost && nat_le cost p.burst

-- what a call that asks at this moment would make of `due`
abbrev pub due_after : Pace → ℕ → ℕ → ℕ → ℕ
due_after p now cost due = max due (1000 * clock now) + cost * p.each

-- when it may begin: so late that a whole burst fits before what it makes due, in milliseconds, rounded up
abbrev pub begins_at : Pace → ℕ → ℕ → ℕ → ℕ
begins_at p now cost due = div_ceil (max (1000 * clock now) (due_after p now cost due - p.burst * p.each)) 1000

-- it waits no longer than a call may
abbrev pub is_near : Pace → ℕ → ℕ → ℕ → Bool
is_near p now cost due = nat_le (begins_at p now cost due - clock now) p.longest

-- what it is told
abbrev pub told_cost : Pace → ℕ → ℕ → ℕ → Taken
told_cost p now cost due =
    if is_near p now cost due
    then Granted (begins_at p now cost due) (due_after p now cost due)
    else TooSoon (begins_at p now cost due - p.longest)

abbrev pub took : Pace → ℕ → ℕ → ℕ → Taken
took p now cost due = if is_cost p cost then told_cost p now cost due else NoCost

-- what it makes of `due`
abbrev pub drawn : Pace → ℕ → ℕ → ℕ → ℕ
drawn p now cost due = if is_cost p cost && is_near p now cost due then due_after p now cost due else due

-- a take that left this mark is the last one
abbrev pub is_last : Pace → ℕ → ℕ → ℕ → Bool
is_last p cost mark due = (due == mark) && is_cost p cost

-- what giving it back makes of `due`
abbrev pub given_back : Pace → ℕ → ℕ → ℕ → ℕ
given_back p cost mark due = if is_last p cost mark due then due - cost * p.each else due

-- a take is a draw, and its mark stands in the place of slots where it is given back
abbrev pub pace_next : Pace → Call → ℕ → ℕ
pace_next p (Draw now cost slots) due = drawn p now cost due
pace_next p (Returned cost mark) due = given_back p cost mark due
pace_next p (Admit now random before) due = due
pace_next p (Failed now generation) due = due
pace_next p (Succeeded now generation worth) due = due
pace_next p (Ended slots) due = due
pace_next p (Closed now) due = due
pace_next p (OpenedByHand now until) due = due
pace_next p (ClosedByHand now) due = due
