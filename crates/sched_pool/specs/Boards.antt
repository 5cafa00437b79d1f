-- What contracts see of a board, and when each refusal comes.
use Rattle.std.specs.Prelude.{◌≡◌, ◌<◌, ◌≤◌, ℕ, false, List, length, Option, Some, None, IsSome, IfSome, All}
use Rattle.sched_ticket.specs.View.{terms}
use Rattle.sched_ticket.specs.Held.{Name}
use Rattle.sched_pool_claim.specs.Portion.{Portion, IsNewOf}
use Rattle.sched_pool.specs.declared.faults.AddFault.{AddFault}
use Rattle.sched_pool.specs.declared.faults.AddFault.TheVariants as add
use Rattle.sched_pool.specs.declared.faults.ShareFault.{ShareFault}
use Rattle.sched_pool.specs.declared.faults.ShareFault.TheVariants as share

pub record Boarded : Type 0 where
  -- how many jobs it has, numbered from 0 on
  pub jobs : ℕ
  -- the name of the jobs' claims, once they were shared out
  pub claims : Option Name

-- what is true of every board of the budget that its type names
pub record IsBoard (named budget : Name) (jobs : ℕ) (claims : Option Name) : Type 0 where
  pub of : budget ≡ named
  pub few : jobs ≤ 4096
  -- all its jobs were shared out
  pub all : IfSome claims (λ c. c.terms ≡ terms jobs false)

-- a retry is not taken for this reason
abbrev pub RefusesAdd : Boarded → AddFault → Type 0
RefusesAdd board add.Sealed = IsSome board.claims
RefusesAdd board add.BoardFull = (board.claims ≡ None) × (board.jobs ≡ 4096)
RefusesAdd board add.NoMemory = (board.claims ≡ None) × (board.jobs < 4096)

-- so many workers may share the jobs
abbrev pub IsCrew : ℕ → Type 0
IsCrew workers = (1 ≤ workers) × (workers ≤ 16)

-- jobs are not shared out for this reason
abbrev pub RefusesShares : Boarded → ℕ → ShareFault → Type 0
RefusesShares board workers share.BadWorkers = IsCrew workers → ⊥
RefusesShares board workers share.Sealed = IsCrew workers × IsSome board.claims
RefusesShares board workers share.NoMemory = IsCrew workers × (board.claims ≡ None)

-- The jobs were shared out: each worker has a new share of all of them, and the board is as before but for that.
pub record SharedOut (board : Boarded) (workers : ℕ) (shares : List Portion) (after : Boarded) : Type 0 where
  pub unsealed : board.claims ≡ None
  pub crew : IsCrew workers
  pub claims : Name
  pub sealed : after ≡ record board { claims = Some claims }
  pub all : claims.terms ≡ terms board.jobs false
  pub each : All (IsNewOf claims) shares
  pub one_each : length shares ≡ workers
