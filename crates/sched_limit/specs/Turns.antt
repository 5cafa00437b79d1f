-- A turn of a throttle, on the words of its even windows and of its odd ones, and the step that its turns make.
use Rattle.std.specs.Prelude.{ℕ, ◌+◌, ◌-◌, ◌*◌, ◌%◌, ◌==◌, ◌&&◌, min, Bool, if◌then◌else◌, Option, Some, None, Ok, Err}
use Rattle.sched_limit_word.specs.declared.call.Call.{Call}
use Rattle.sched_limit_word.specs.declared.call.Call.TheVariants as call
use Rattle.sched_limit.specs.Step.{Answer, asks, answered, lost_answer, held}
use Rattle.sched_limit.specs.Throttle.{window_at, throttle_next, throttle_refusal}
use Rattle.sched_limit.specs.Window.{window_of, is_closed, is_open_to}
use Rattle.sched_limit.specs.declared.refusal.Refusal.TheVariants.{OutOfTurn}
use Rattle.sched_limit.specs.declared.request.Request.{Request}
use Rattle.sched_limit.specs.declared.request.Told.{Told}
use Rattle.sched_limit.specs.declared.request.Told.TheVariants.{Admit, Draw, Succeeded}
use Rattle.sched_limit.specs.declared.throttle.Throttle.{Throttle}
use Rattle.sched_limit.specs.declared.turns.Turn.{Turn}
use Rattle.sched_limit.specs.declared.turns.Turn.TheVariants.{Done, Later}

-- when what a request tells is counted, if it is: a request is admitted once, and draws while it is admitted
abbrev pub counts_at : Told → Bool → Option ℕ
counts_at (Admit now) counted = if counted then None else Some now
counts_at (Draw now cost) counted = if counted then Some now else None
counts_at (Succeeded now) counted = Some now
counts_at _ counted = None

-- the answer to what is not counted
abbrev pub uncounted : Told → Answer
uncounted told = if asks told then Err OutOfTurn else Ok tt

-- the call that counts it at a moment, by the word that the window before was closed with
abbrev pub count_of : Told → ℕ → ℕ → ℕ → Call
count_of (Succeeded now) random at before = call.Succeeded at 0 0
count_of _ random at before = call.Admit at random before

-- a moment of the window that a word counts, or of the one after it where that is closed
abbrev pub moment_in : Throttle → ℕ → ℕ
moment_in t word =
    min (t.start + (if is_closed word then window_of word else window_of word - 1) * t.period) 4611686018427387903

-- what comes of it on the word that it finds: an answer, or a later window has begun, at this moment
abbrev pub turn_of : Throttle → Told → ℕ → ℕ → ℕ → ℕ → Turn
turn_of t told random at before word =
    if is_open_to (window_at t at) word
    then Done (answered (throttle_refusal t (count_of told random at before) word))
    else Later (moment_in t word)

-- the window before that of this moment is closed, by this word of it
abbrev pub has_closed : Throttle → ℕ → ℕ → Bool
has_closed t now word = is_closed word && (window_at t now == window_of word + 1)

-- what a turn leaves, and what came of it
pub record Turned : Type 0 where
  pub turn : Turn
  pub here : ℕ
  pub other : ℕ

-- the window before is closed, and this one counts
abbrev pub turned : Throttle → Told → ℕ → ℕ → ℕ → ℕ → Turned
turned t told random at here other =
    let before = throttle_next t (call.Closed at) other in
    record {
      turn = turn_of t told random at before here;
      here = throttle_next t (count_of told random at before) here;
      other = before;
    }

-- the words of even windows and of odd ones, and what came of it
pub record Turns : Type 0 where
  pub turn : Turn
  pub even : ℕ
  pub odd : ℕ

abbrev pub in_even : Turned → Turns
in_even a = record { turn = a.turn; even = a.here; odd = a.other }

abbrev pub in_odd : Turned → Turns
in_odd a = record { turn = a.turn; even = a.other; odd = a.here }

abbrev pub turn_by : Throttle → Told → ℕ → ℕ → ℕ → ℕ → Turns
turn_by t told random at even odd =
    if window_at t at % 2 == 0
    then in_even (turned t told random at even odd)
    else in_odd (turned t told random at odd even)

-- one more turn, where a later window has begun
abbrev pub again : Throttle → Told → ℕ → Turn → ℕ → ℕ → Turns
again t told random (Done answer) even odd = record { turn = Done answer; even = even; odd = odd }
again t told random (Later at) even odd = turn_by t told random at even odd

abbrev pub answer_by : Told → Turn → Answer
answer_by told (Done answer) = answer
answer_by told (Later at) = lost_answer told

-- what a step leaves
pub record Steps : Type 0 where
  pub answer : Answer
  pub request : Request
  pub even : ℕ
  pub odd : ℕ

abbrev pub stepped : Told → Request → Turns → Steps
stepped told r w =
    let answer = answer_by told w.turn in
    record { answer = answer; request = held told answer 0 r; even = w.even; odd = w.odd }

abbrev pub steps_at : Throttle → Told → ℕ → Request → Option ℕ → ℕ → ℕ → Steps
steps_at t told random r None even odd =
    stepped told r (record { turn = Done (uncounted told); even = even; odd = odd })
steps_at t told random r (Some now) even odd =
    let w = turn_by t told random now even odd in stepped told r (again t told random w.turn w.even w.odd)

abbrev pub steps : Throttle → Told → ℕ → Request → ℕ → ℕ → Steps
steps t told random r even odd = steps_at t told random r (counts_at told r.counted) even odd
