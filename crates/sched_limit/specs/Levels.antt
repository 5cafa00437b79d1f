-- The levels that an adaptive limit can be made with.
use Rattle.std.specs.Prelude.{ℕ, ◌≤◌}

-- from the least to the most, and the first between them
pub record AreLevels (least most first : ℕ) : Type 0 where
  pub some : 1 ≤ least
  pub above : least ≤ first
  pub below : first ≤ most
  pub few : most ≤ 65535
