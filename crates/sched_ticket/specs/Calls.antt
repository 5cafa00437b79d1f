-- What each call does to a pass, and when each refusal comes.
use Rattle.std.specs.Prelude.{◌≡◌, ℕ, ◌+◌, ◌<◌, ◌≤◌, ◌⊎◌, Bool, true, false, [], length}
use Rattle.sched_ticket.specs.View.{draws_again, with_ticket, with_refusal, with_raise, with_refused_split}
use Rattle.sched_ticket.specs.Steps.{IsLater, IsLimit}
use Rattle.sched_ticket.specs.declared.view.View.{View}
use Rattle.sched_ticket.specs.declared.fault.TicketFault.{TicketFault}
use Rattle.sched_ticket.specs.declared.fault.TicketFault.TheVariants.{LimitTooLarge, NoMemory, TooManyPasses, Fixed}

-- a budget of this limit is not made for this reason
abbrev pub RefusesLimit : ℕ → TicketFault → Type 0
RefusesLimit limit LimitTooLarge = 4294967296 < limit
RefusesLimit limit NoMemory = limit ≤ 4294967296
RefusesLimit limit TooManyPasses = ⊥
RefusesLimit limit Fixed = ⊥

-- a limit is not raised for this reason
abbrev pub RefusesRaise : Bool → ℕ → TicketFault → Type 0
RefusesRaise rises to LimitTooLarge = 4294967296 < to
RefusesRaise rises to NoMemory = ⊥
RefusesRaise rises to TooManyPasses = ⊥
RefusesRaise rises to Fixed = (rises ≡ false) × (to ≤ 4294967296)

-- the pass asked for the limit: a budget that keeps its limit changes nothing, and a rising one was read
pub record Asked (v u : View) : Type 0 where
  pub limit : IsLimit v u.floor
  pub same : u ≡ record v { floor = u.floor; readings = u.readings }
  pub fixed : v.terms.rises ≡ false → u ≡ v
  pub rising : v.terms.rises ≡ true → u.readings ≡ v.readings + 1

-- the pass took the ticket k: a number below its floor, and after all tickets that it had
pub record Took (v : View) (k : ℕ) (w : View) : Type 0 where
  pub ticket : k < v.floor
  pub later : IsLater v k
  pub gained : w ≡ with_ticket v k

-- the pass found a number too high
pub record TookNone (v w : View) : Type 0 where
  pub number : ℕ
  pub high : v.floor ≤ number
  pub gained : w ≡ with_refusal v number

-- a draw that gave the ticket k: a number below the limit asked for, and after all tickets that the pass had
pub record Drew (v : View) (k : ℕ) (w : View) : Type 0 where
  pub unrefused : draws_again v.terms ≡ false → v.refusals ≡ []
  pub asked : View
  pub asks : Asked v asked
  pub ticket : k < asked.floor
  pub later : IsLater v k
  pub gained : w ≡ with_ticket asked k

-- a draw that found a number too high: the one that it drew, or by parts the one that would be drawn next
pub record FoundNone (v w : View) : Type 0 where
  pub unrefused : draws_again v.terms ≡ false → v.refusals ≡ []
  pub asked : View
  pub asks : Asked v asked
  pub number : ℕ
  pub high : asked.floor ≤ number
  pub gained : w ≡ with_refusal asked number

-- a draw was answered None: before, which is for good, and nothing changes, or now
abbrev pub DrawRefused : View → View → Type 0
DrawRefused v w = ((draws_again v.terms ≡ false) × (0 < length v.refusals) × (w ≡ v)) ⊎ FoundNone v w

-- a pass may be split: it was not told that too many were counted, or it has more than one part
pub record MaySplit (v : View) : Type 0 where
  pub counted : v.terms.by_parts ≡ false → v.refused_splits ≡ 0
  pub parts : v.terms.by_parts ≡ true → 1 < v.weight

-- a split was refused: before, and nothing changes, or now, and by parts where the pass has one part, and nothing
-- changes
pub record SplitRefused (v w : View) : Type 0 where
  pub counted : v.terms.by_parts ≡ false →
      ((0 < v.refused_splits) × (w ≡ v)) ⊎ ((v.refused_splits ≡ 0) × (w ≡ with_refused_split v))
  pub parts : v.terms.by_parts ≡ true → (v.weight ≡ 1) × (w ≡ v)

-- the pass raised the limit to `to`, and it is n now: no less than that, and than every limit that the pass had found
pub record Raised (v : View) (to n : ℕ) (w : View) : Type 0 where
  pub rising : v.terms.rises ≡ true
  pub limit : IsLimit v n
  pub reached : to ≤ n
  pub gained : w ≡ with_raise v to n
