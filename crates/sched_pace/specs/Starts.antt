-- The takes of a run that stand: that were granted and not given back.
use Rattle.std.specs.Prelude.{ℕ, ◌+◌, ◌-◌, ◌*◌, ◌/◌, ◌≤◌, ◌==◌, ◌&&◌, List, [], ◌∷◌, if◌then◌else◌, nat_lt, nat_le}
use Rattle.sched_ticket.specs.Lists.{total}
use Rattle.sched_limit_word.specs.declared.call.Call.{Call}
use Rattle.sched_limit_word.specs.declared.call.Call.TheVariants.{Draw, Returned}
use Rattle.sched_limit_word.specs.declared.view.Move.{Move}
use Rattle.sched_pace.specs.Pace.{begins_at}
use Rattle.sched_pace.specs.declared.pace.Pace.{Pace}

-- a take that was granted: when its call may begin, its cost, and its mark
pub record Start : Type 0 where
  pub at : ℕ
  pub cost : ℕ
  pub mark : ℕ

-- one of this cost and this mark stands no more
abbrev pub without : ℕ → ℕ → List Start → List Start
without cost mark [] = []
without cost mark (x ∷ xs) =
    if (x.cost == cost) && (x.mark == mark) then xs else x ∷ without cost mark xs

-- what stands after a move that found one word and left another
abbrev pub stands : Pace → Call → ℕ → ℕ → List Start → List Start
stands p (Draw now cost slots) found left xs =
    if left == found then xs else record { at = begins_at p now cost found; cost = cost; mark = left } ∷ xs
stands p (Returned cost mark) found left xs = if left == found then xs else without cost mark xs
stands p c found left xs = xs

-- what stands after a run, the latest first
abbrev pub standing : Pace → List Move → List Start
standing p [] = []
standing p (m ∷ run) = stands p m.call m.found m.left (standing p run)

-- a moment is one of the l milliseconds from m on
abbrev pub cost_if_in : ℕ → ℕ → ℕ → ℕ → ℕ
cost_if_in m l at cost = if nat_le m at && nat_lt at (m + l) then cost else 0

abbrev pub cost_in : ℕ → ℕ → Start → ℕ
cost_in m l x = cost_if_in m l x.at x.cost

-- the most that may begin in any l milliseconds
abbrev pub most_in : Pace → ℕ → ℕ
most_in p l = p.burst + (1000 * l - 1) / p.each

abbrev pub AreFew : Pace → List Move → Type 0
AreFew p run = (m l : ℕ) → total (cost_in m l) (standing p run) ≤ most_in p l

-- the cost of a move that is a granted take whose call begins then, and of one that gives a take back
abbrev pub taken_in : Pace → ℕ → ℕ → Call → ℕ → ℕ → ℕ
taken_in p m l (Draw now cost slots) found left =
    if left == found then 0 else cost_if_in m l (begins_at p now cost found) cost
taken_in p m l c found left = 0

abbrev pub cost_returned : Call → ℕ → ℕ → ℕ
cost_returned (Returned cost mark) found left = if left == found then 0 else cost
cost_returned c found left = 0
