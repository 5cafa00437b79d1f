-- What the call that makes a whole run of a retry does: it begins, and it ends as it is reported.
use Rattle.std.specs.Prelude.{◌≡◌, ℕ, List, Option, Result, Ok, Err}
use Rattle.sched_time.specs.declared.numbers.Tick.{Tick}
use Rattle.sched_effect.specs.declared.ran.Ran.{Ran}
use Rattle.sched_handle.specs.Retries.{Rans}
use Rattle.sched_handle.specs.declared.held.Held.{Held}
use Rattle.sched_handle.specs.declared.replies.Reply.{Reply}
use Rattle.sched_handle.specs.declared.status.Status.{Status}
use Rattle.hikebox_c.specs.Calls.{OnHeld}
use Rattle.hikebox_c.specs.Retries.{Reports}
use Rattle.hikebox_c.specs.declared.runs.Run.{Run}

abbrev pub ticked : ℕ → List ℕ → Tick
ticked now words = record { now = now; words = words }

-- a run that is reported so
abbrev pub RansWith : Tick → Tick → Result (Option Ran) Status → Option Held → Option Held →
    (Result Reply Status → Type 0) → Type 0
RansWith began ended (Ok report) u w tells = OnHeld (Rans began ended report) u w tells
RansWith began ended (Err s) u w tells = (w ≡ u) × tells (Err s)

-- how the run is reported is told apart before the handle is looked at
abbrev pub RansAt : Run → Option Held → Option Held → (Result Reply Status → Type 0) → Type 0
RansAt run u w tells = (r : Result (Option Ran) Status) × Reports run.report run.code r
    × RansWith (ticked run.began run.words) (ticked run.ended run.words) r u w tells
