-- A pass of every other window of a throttle.
use Rattle.std.specs.Prelude.{◌≡◌}
use Rattle.sched_limit_word.specs.Held.{Name, Held}
use Rattle.sched_limit.specs.declared.throttle.Throttle.{Throttle}

-- the limit of every other window, and a pass of it
pub record OfSide : Type 0 where
  pub pass : Held
  pub limit : Name Throttle

-- a pass of the same limit
pub record IsSameSide (s r : OfSide) : Type 0 where
  pub limit : r.limit ≡ s.limit
  pub table : r.pass.table ≡ s.pass.table
