-- What holds of a throttle's turns. The law is the contract of a function of the module `laws`.
use Rattle.std.specs.Prelude.{◌≡◌, ◌⊎◌, ℕ, ◌-◌, false}
use Rattle.sched_limit_word.specs.Calls.{Called}
use Rattle.sched_limit_word.specs.declared.call.Call.TheVariants as call
use Rattle.sched_limit_word.specs.declared.view.View.{View}
use Rattle.sched_limit.specs.Throttle.{window_at, throttle_next}
use Rattle.sched_limit.specs.Turns.{count_of, turn_of, turned}
use Rattle.sched_limit.specs.Window.{is_open_to}
use Rattle.sched_limit.specs.declared.request.Told.{Told}
use Rattle.sched_limit.specs.declared.throttle.Throttle.{Throttle}
use Rattle.sched_limit.specs.declared.turns.Turn.{Turn}
use Rattle.sched_limit_request.specs.Windows.{Turned}

-- a turn as `Turned` has it, of which each call found the word that its pass had seen last
pub record Undisturbed (t : Throttle) (told : Told) (random at : ℕ) (turn : Turn) (own other own' other' : View)
    : Type 0 where
  pub before : ℕ
  pub closes : ((other' ≡ other) × (other.seen ≡ before) × (is_open_to (window_at t at - 1) before ≡ false))
      ⊎ (Called (throttle_next t) (call.Closed at) other.seen other other'
      × (before ≡ throttle_next t (call.Closed at) other.seen))
  pub called : Called (throttle_next t) (count_of told random at before) own.seen own own'
  pub turn_is : turn ≡ turn_of t told random at before own.seen

-- that is a turn, and the one that the two words make where no other call is made
pub record IsTurned (t : Throttle) (told : Told) (random at : ℕ) (turn : Turn) (own other own' other' : View)
    : Type 0 where
  pub is_one : Turned t told random at turn own other own' other'
  pub turn_is : turn ≡ (turned t told random at own.seen other.seen).turn
  pub here : own'.seen ≡ (turned t told random at own.seen other.seen).here
  pub other_is : other'.seen ≡ (turned t told random at own.seen other.seen).other

abbrev pub UndisturbedIsTurned : Type 0
UndisturbedIsTurned = (t : Throttle) (told : Told) (random at : ℕ) (turn : Turn) (own other own' other' : View) →
    Undisturbed t told random at turn own other own' other' → IsTurned t told random at turn own other own' other'
