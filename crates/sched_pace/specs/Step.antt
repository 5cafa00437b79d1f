-- One step of a pace: what a take answers, and what gives it back.
use Rattle.std.specs.Prelude.{ℕ, Bool, false, Option, Some, None, Result, Ok, Err}
use Rattle.sched_limit_word.specs.declared.call.Call.{Call}
use Rattle.sched_limit_word.specs.declared.call.Call.TheVariants as call
use Rattle.sched_pace.specs.Pace.{pace_next, is_last}
use Rattle.sched_pace.specs.declared.fault.TakeFault.{TakeFault}
use Rattle.sched_pace.specs.declared.fault.TakeFault.TheVariants as fault
use Rattle.sched_pace.specs.declared.pace.Pace.{Pace}
use Rattle.sched_pace.specs.declared.step.Last.{Last}
use Rattle.sched_pace.specs.declared.taken.Taken.{Taken}
use Rattle.sched_pace.specs.declared.taken.Taken.TheVariants.{Granted, TooSoon, NoCost}

-- when a call may begin, or why not
abbrev pub Answer : Type 0
Answer = Result ℕ TakeFault

abbrev pub answer_of : Taken → Answer
answer_of (Granted at mark) = Ok at
answer_of (TooSoon again) = Err (fault.TooSoon again)
answer_of NoCost = Err fault.NoCost

-- what gives a take of this cost back
abbrev pub last_of : ℕ → Taken → Option Last
last_of cost (Granted at mark) = Some (record { cost = cost; mark = mark })
last_of cost (TooSoon again) = None
last_of cost NoCost = None

-- the call that gives a take back, if there is one
abbrev pub call_back : Option Last → Option Call
call_back None = None
call_back (Some l) = Some (call.Returned l.cost l.mark)

-- the word after a call, if there is one
abbrev pub made : Pace → Option Call → ℕ → ℕ
made p None word = word
made p (Some c) word = pace_next p c word

-- a take comes back where it is the last one
abbrev pub comes_back : Pace → Option Last → ℕ → Bool
comes_back p None word = false
comes_back p (Some l) word = is_last p l.cost l.mark word
