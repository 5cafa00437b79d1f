-- A deadline: a schedule that plans a start past it is done instead.
use Rattle.std.specs.Prelude.{ℕ, Bool, false, if◌then◌else◌, nat_lt, min, List, Option, Some, None}
use Rattle.sched_plan.specs.Changes.{ended_where, goes_past}
use Rattle.sched_plan.specs.declared.history.Event.{Event}
use Rattle.sched_plan.specs.declared.history.Answer.{Answer}

-- whether a moment is past the deadline, where there is one
abbrev pub is_past : Option ℕ → ℕ → Bool
is_past None moment = false
is_past (Some deadline) moment = nat_lt deadline moment

-- the start planned, where it is not past the deadline
abbrev pub in_time : Option ℕ → Option ℕ → Option ℕ
in_time deadline None = None
in_time deadline (Some start) = if is_past deadline start then None else Some start

-- the start planned, where it is
abbrev pub late : Option ℕ → Option ℕ → Option ℕ
late deadline None = None
late deadline (Some start) = if is_past deadline start then Some start else None

-- the answer, but done where it plans a start past the deadline
abbrev pub ended_by : Option ℕ → Answer → Answer
ended_by None a = a
ended_by (Some deadline) a = ended_where (goes_past deadline a.decision) a

-- a schedule with these answers, but done where it plans a start past the deadline
abbrev pub until : Option ℕ → (List Event → Answer) → List Event → Answer
until deadline f h = ended_by deadline (f h)

-- the earlier of two deadlines, where there are two
abbrev pub earlier : Option ℕ → Option ℕ → Option ℕ
earlier a None = a
earlier None (Some b) = Some b
earlier (Some a) (Some b) = Some (min a b)
