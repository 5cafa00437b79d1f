-- What is due of a request, as it is kept.
use Rattle.std.specs.Prelude.{ℕ, nat_le, Bool, true, false, if◌then◌else◌, Option, Some, None, is_some}
use Rattle.sched_storm_trace.specs.Trace.{Due}
use Rattle.sched_storm_limit.specs.Limits.{LimitState, admitting, drawing_if, ending_if}
use Rattle.sched_storm_limit.specs.Ranges.{has_draws}
use Rattle.sched_storm.specs.Plays.{Stage, begins, retries, succeeds, fails, Shared, is_late}
use Rattle.sched_storm_report.specs.declared.moments.Failure.{Failure}
use Rattle.sched_storm_report.specs.declared.moments.Then.{Then}
use Rattle.sched_storm_report.specs.declared.moments.Then.TheVariants.{Lost, Denied, Waits}
use Rattle.sched_storm.specs.Tickets.{draw_at}
use Rattle.sched_storm.specs.declared.parameters.Parameters.{Parameters}
use Rattle.sched_storm.specs.declared.tickets.Drawn.{Drawn}
use Rattle.sched_storm.specs.declared.turns.Next.{Next}
use Rattle.sched_storm.specs.declared.calls.CallEnd.{CallEnd}
use Rattle.sched_storm.specs.declared.calls.CallEnd.TheVariants.{Succeeded, Failed}
use Rattle.sched_storm.specs.declared.turns.Kind.{Kind}
use Rattle.sched_storm.specs.declared.turns.Kind.TheVariants.{Begins, Retries, Succeeds, Fails}
use Rattle.sched_storm.specs.declared.turns.Turn.{Turn}

abbrev pub kind_after : CallEnd → Kind
kind_after Succeeded = Succeeds
kind_after (Failed failure) = Fails failure

-- whether a call begins where this is due: the first call of a request begins where the limit admits it
abbrev pub begins_call : Parameters → Shared → ℕ → ℕ → Kind → Bool
begins_call p s r t Begins = (admitting p.draws t r s.limit).0
begins_call p s r t Retries = true
begins_call p s r t Succeeds = false
begins_call p s r t (Fails failure) = false

-- what is due, without what its request's driver was given
abbrev pub kind_of : Stage → Kind
kind_of begins = Begins
kind_of (retries h) = Retries
kind_of succeeds = Succeeds
kind_of (fails failure h) = Fails failure

-- what is due of a request, as it is kept
abbrev pub turn_for : ℕ → Due Stage → Turn
turn_for r d = record { at = d.at; request = r; kind = kind_of d.what }

abbrev pub turn_if : ℕ → Option (Due Stage) → Option Turn
turn_if r None = None
turn_if r (Some d) = Some (turn_for r d)

-- what is due of a request at a moment, where that is played
abbrev pub turn_by : ℕ → ℕ → ℕ → Kind → Option Turn
turn_by until t r kind = if nat_le t until then Some (record { at = t; request = r; kind = kind }) else None

-- what follows a call that failed, where a retry was granted that begins at a start, or was not
abbrev pub next_drawn : Parameters → ℕ → ℕ → Bool × Drawn → Next
next_drawn p r start drawn =
    if drawn.0 then record {
      next = turn_by p.until start r Retries;
      «then» = Waits (has_draws p.draws);
      drawn = drawn.1;
    }
    else record { next = None; «then» = Denied; drawn = drawn.1 }

-- what follows it where its policy plans a start, for which a limit has granted a retry or not, or is done
abbrev pub next_at : Parameters → Bool → Drawn → ℕ → ℕ → Option ℕ → Next
next_at p granted drawn t r None = record { next = None; «then» = Lost; drawn = drawn }
next_at p granted drawn t r (Some start) = next_drawn p r start (draw_at p.draws granted t drawn)

-- the request is over
abbrev pub is_over : Then → Bool
is_over Lost = true
is_over Denied = true
is_over (Waits ticket) = false

-- the limit is asked where the policy plans a start, and told of the end where the request is over
abbrev pub asking : Parameters → Failure → ℕ → ℕ → Option ℕ → LimitState → Bool × LimitState
asking p failure t r start s = drawing_if (is_some start) p.draws (is_late failure) t r s

abbrev pub ending_by : Parameters → Then → ℕ → LimitState → LimitState
ending_by p next r s = ending_if (is_over next) p.draws r s
