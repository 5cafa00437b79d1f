-- What lasts from turn to turn: there are 64 open times, and those so far are the ones that were given.
use Rattle.std.proofs.Common.{◌≡◌, ℕ, ◌<◌, length, get_or}
use Rattle.hikebox_c.proofs.limits.kept_of.Given as goal

abbrev pub invariant-loop-i : goal.invariant-loop-i
invariant-loop-i l = (length l.kept ≡ 64) × ((j : ℕ) → j < l.i → get_or l.kept j 0 ≡ get_or l.times j 0)
