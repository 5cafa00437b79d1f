-- What each kind of atomic step tells the pass that makes it: of the seat before, the number found and the seat after.
use Rattle.std.specs.Prelude.{◌≡◌, ◌≢◌, ℕ, ◌≤◌}
use mathlib.Core.Option.{Option, none, some}
use Rattle.atomic_table.specs.Table.{Me, Step}
use Rattle.sched_ticket.specs.Parts.{all_parts}
use Rattle.sched_limit_word.specs.View.{with_look, with_move, with_loss}
use Rattle.sched_limit_word.specs.declared.call.Call.{Call}
use Rattle.sched_limit_word.specs.declared.call.Call.TheVariants.{Ended}
use Rattle.sched_limit_word.specs.declared.view.View.{View}

-- a seat's view, and the slots that it holds, of which a limit has none
abbrev pub Sat : Type 0
Sat = Me Call View

abbrev pub Then : Type 1
Then = Step Call → Sat → ℕ → Sat → Type 0

-- the seat has this view now, and all else as before
abbrev pub Sees : Sat → Sat → View → Type 0
Sees m n v = n ≡ (v, m.1)

-- the call that a step announces
abbrev pub called : Option Call → Call
called none = Ended 0
called (some c) = c

abbrev pub looks : Then
looks s m k n = Sees m n (with_look m.0 k)

-- where the word is the one expected, the call moves it to the other
abbrev pub tries : Then
tries s m k n =
    (k ≡ s.first → Sees m n (with_move m.0 (called s.said) k s.second)) × (k ≢ s.first → Sees m n (with_loss m.0 k))

-- a pass has at most all parts
abbrev pub learns : Then
learns s m k n = (n ≡ m) × (m.0.weight ≤ all_parts)
