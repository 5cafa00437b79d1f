-- A throttle's two windows, and what each call does to these.
use Rattle.std.specs.Prelude.{◌≡◌, ◌⊎◌, ℕ, zero, suc, ◌-◌, ◌<◌, ◌%◌, ◌==◌, ◌||◌, Bool, false, if◌then◌else◌}
use Rattle.std.specs.Prelude.{Option, Some, None, is_ok}
use Rattle.sched_limit_word.specs.Held.{Held}
use Rattle.sched_limit_word.specs.Calls.{Called, LostRaces}
use Rattle.sched_limit_word.specs.declared.call.Call.TheVariants as call
use Rattle.sched_limit_word.specs.declared.view.View.{View}
use Rattle.sched_limit.specs.Step.{Answer, tries_of, lost_answer}
use Rattle.sched_limit.specs.Throttle.{window_at, throttle_next}
use Rattle.sched_limit.specs.Turns.{counts_at, uncounted, count_of, turn_of}
use Rattle.sched_limit.specs.Window.{is_open_to}
use Rattle.sched_limit.specs.declared.request.Told.{Told}
use Rattle.sched_limit.specs.declared.request.Told.TheVariants.{Admit, Ended}
use Rattle.sched_limit.specs.declared.throttle.Throttle.{Throttle}
use Rattle.sched_limit.specs.declared.turns.Turn.{Turn}
use Rattle.sched_limit.specs.declared.turns.Turn.TheVariants.{Done, Later}
use Rattle.sched_limit_request.specs.Asks.{Asked}
use Rattle.sched_limit_request.specs.Limits.{part_held, left_held, Unsplit}
use Rattle.sched_limit_request.specs.declared.fault.SplitFault.{SplitFault}

-- ---- one turn, on the pass of its window and that of the window before, the other one

-- the window before is closed by the word `before`: the pass has seen that it takes no counts, or the pass closes it
abbrev pub Closes : Throttle → ℕ → ℕ → View → View → Type 0
Closes t at before v u =
    ((u ≡ v) × (v.seen ≡ before) × (is_open_to (window_at t at - 1) before ≡ false))
    ⊎ ((w : ℕ) × Called (throttle_next t) (call.Closed at) w v u × (before ≡ throttle_next t (call.Closed at) w))

-- what a request tells is counted on the word that is found, and that says what comes of it; or the races are lost
pub record Tried (t : Throttle) (told : Told) (random at before : ℕ) (turn : Turn) (v u : View) : Type 0 where
  pub word : ℕ
  pub called : Called (throttle_next t) (count_of told random at before) word v u
  pub turn_is : turn ≡ turn_of t told random at before word

abbrev pub TriesOn : Throttle → Told → ℕ → ℕ → ℕ → Turn → View → View → Type 0
TriesOn t told random at before turn v u = Tried t told random at before turn v u
    ⊎ (LostRaces (tries_of told) v u × (turn ≡ Done (lost_answer told)))

-- the window before is closed, and this one counts
pub record Turned (t : Throttle) (told : Told) (random at : ℕ) (turn : Turn) (own other own' other' : View)
    : Type 0 where
  pub before : ℕ
  pub closes : Closes t at before other other'
  pub tries : TriesOn t told random at before turn own own'

-- the closing lost its races, and this window is as it was
pub record Unclosed (told : Told) (turn : Turn) (own other own' other' : View) : Type 0 where
  pub lost : LostRaces (tries_of told) other other'
  pub same : own' ≡ own
  pub turn_is : turn ≡ Done (lost_answer told)

pub record Turns (t : Throttle) (told : Told) (random at : ℕ) (turn : Turn) (own other own' other' : View)
    : Type 0 where
  pub turns : Turned t told random at turn own other own' other' ⊎ Unclosed told turn own other own' other'

-- ---- the turns of a call, on the passes of even windows and of odd ones

pub record Views : Type 0 where
  pub even : View
  pub odd : View

-- the pass of the window of a moment, and the other one
abbrev pub own : Throttle → ℕ → Views → View
own t at d = if window_at t at % 2 == 0 then d.even else d.odd

abbrev pub other : Throttle → ℕ → Views → View
other t at d = if window_at t at % 2 == 0 then d.odd else d.even

abbrev pub IsTurn : Throttle → Told → ℕ → ℕ → Turn → Views → Views → Type 0
IsTurn t told random at turn d e =
    Turns t told random at turn (own t at d) (other t at d) (own t at e) (other t at e)

-- so many turns, each of which found that a later window had begun, lead from a moment and views to others
abbrev pub Leads : Throttle → Told → ℕ → ℕ → Views → ℕ → ℕ → Views → Type 0
Leads t told random now d zero at m = (at ≡ now) × (m ≡ d)
Leads t told random now d (suc turns) at m =
    (a : ℕ) × (n : Views) × Leads t told random now d turns a n × IsTurn t told random a (Later at) n m

-- the last turn is done, one of 64; or there were 64, and the races are lost
pub record Counts (t : Throttle) (told : Told) (random now : ℕ) (answer : Answer) (d e : Views) : Type 0 where
  pub turns : ℕ
  pub at : ℕ
  pub from : Views
  pub leads : Leads t told random now d turns at from
  pub ends : ((turns < 64) × IsTurn t told random at (Done answer) from e)
      ⊎ ((turns ≡ 64) × (e ≡ from) × (answer ≡ lost_answer told))

-- ---- a throttle that requests ask

-- a throttle, its pass of even windows and that of odd ones, and whether it has a request
pub record OfThrottle : Type 0 where
  pub even : Held
  pub odd : Held
  pub throttle : Throttle
  pub counted : Bool

abbrev pub views : Held → Held → Views
views even odd = record { even = even.has; odd = odd.has }

-- the same throttle, on the same limits
pub record IsSame (d e : OfThrottle) : Type 0 where
  pub even : e.even.table ≡ d.even.table
  pub odd : e.odd.table ≡ d.odd.table
  pub throttle : e.throttle ≡ d.throttle

-- whether a request is under way after what it tells
abbrev pub counted_after : Told → Answer → Bool → Bool
counted_after (Admit now) answer counted = counted || is_ok answer
counted_after Ended answer counted = false
counted_after _ answer counted = counted

-- what is counted at a moment, and what is not
abbrev pub WindowCounts : Option ℕ → OfThrottle → Told → ℕ → Answer → OfThrottle → Type 0
WindowCounts None d told random answer e =
    (answer ≡ uncounted told) × (e ≡ record d { counted = counted_after told answer d.counted })
WindowCounts (Some now) d told random answer e =
    IsSame d e × (e.counted ≡ counted_after told answer d.counted)
    × Counts d.throttle told random now answer (views d.even d.odd) (views e.even e.odd)

abbrev pub WindowTells : OfThrottle → Told → ℕ → Answer → OfThrottle → Type 0
WindowTells d told random answer e = WindowCounts (counts_at told d.counted) d told random answer e

-- the pass of even windows is not split, or it has given a part away, and that of odd ones is not split
abbrev pub WindowUnsplit : OfThrottle → SplitFault → OfThrottle → Type 0
WindowUnsplit d why e = ((e ≡ d) × Unsplit d.even why)
    ⊎ ((e ≡ record d { even = left_held d.even }) × Unsplit d.odd why)

-- the part has no request
abbrev pub window_asked : Asked OfThrottle
window_asked = record {
  tells = WindowTells;
  part = λ d. record d { even = part_held d.even; odd = part_held d.odd; counted = false };
  left = λ d. record d { even = left_held d.even; odd = left_held d.odd };
  unsplit = WindowUnsplit;
}
