-- The keys of what is due of requests: they ascend by moment, and at one moment by the number of the request.
use Rattle.std.specs.Prelude.{◌≡◌, ℕ, suc, zero, ◌+◌, ◌*◌, ◌/◌, ◌%◌, ◌<◌, ◌≤◌, Bool, false, nat_eq, if◌then◌else◌}
use Rattle.std.specs.Prelude.{Option, Some, None}
use Rattle.sched_calendar.specs.Calendar.{times}
use Rattle.sched_storm_report.specs.declared.moments.Failure.TheVariants.{Refused, Shed, Late}
use Rattle.sched_storm_trace.specs.Trace.{updated}
use Rattle.sched_storm.specs.declared.turns.Kind.{Kind}
use Rattle.sched_storm.specs.declared.turns.Kind.TheVariants.{Begins, Retries, Succeeds, Fails}
use Rattle.sched_storm.specs.declared.turns.Turn.{Turn}
use Rattle.sched_storm.specs.declared.agenda.Agenda.{Agenda}

abbrev pub code_of : Kind → ℕ
code_of Begins = 0
code_of Retries = 1
code_of Succeeds = 2
code_of (Fails Refused) = 3
code_of (Fails Shed) = 4
code_of (Fails Late) = 5

abbrev pub kind_from : ℕ → Kind
kind_from zero = Begins
kind_from (suc zero) = Retries
kind_from (suc (suc zero)) = Succeeds
kind_from (suc (suc (suc zero))) = Fails Refused
kind_from (suc (suc (suc (suc zero)))) = Fails Shed
kind_from _ = Fails Late

abbrev pub key_of : Turn → ℕ
key_of t = (t.at * 1048576 + t.request) * 8 + code_of t.kind

abbrev pub request_in : ℕ → ℕ
request_in key = key / 8 % 1048576

-- what a key stands for
abbrev pub turn_of : ℕ → Turn
turn_of key = record { at = key / 8 / 1048576; request = request_in key; kind = kind_from (key % 8) }

abbrev pub is_this : ℕ → Option ℕ → Bool
is_this key None = false
is_this key (Some k) = nat_eq k key

-- the key is that of what is due of its request
abbrev pub is_due : (ℕ → Option ℕ) → ℕ → Bool
is_due keys key = is_this key (keys (request_in key))

-- Of each request the key of what is due of it is there, once, and no other.
pub record AreHeld (times : ℕ → ℕ) (keys : ℕ → Option ℕ) : Type 0 where
  pub each : (key : ℕ) → times key ≡ (if is_due keys key then 1 else 0)

abbrev pub Holds : Agenda → (ℕ → Option ℕ) → Type 0
Holds a keys = AreHeld (times a.keys) keys

-- a key comes before what else is next
abbrev pub IsBeforeAny : Option Turn → ℕ → Type 0
IsBeforeAny None key = Unit {0}
IsBeforeAny (Some turn) key = key < key_of turn

-- the key of what else is next
abbrev pub bound_of : Option Turn → Option ℕ
bound_of None = None
bound_of (Some turn) = Some (key_of turn)

-- What is least due is taken out. It comes before what else is next.
pub record Pops (keys : ℕ → Option ℕ) (other : Option Turn) (next : Turn) (new : Agenda) : Type 0 where
  pub key : ℕ
  pub is : next ≡ turn_of key
  pub was : keys next.request ≡ Some key
  pub left : Holds new (updated keys next.request None)
  pub least : (r k : ℕ) → keys r ≡ Some k → request_in k ≡ r → key ≤ k
  pub before : IsBeforeAny other key

-- Nothing is due before what else is next, or nothing at all.
abbrev pub ComesFirst : (ℕ → Option ℕ) → Option Turn → Type 0
ComesFirst keys None = (r k : ℕ) → keys r ≡ Some k → request_in k ≡ r → ⊥
ComesFirst keys (Some turn) = (r k : ℕ) → keys r ≡ Some k → request_in k ≡ r → key_of turn ≤ k
