-- The populations of clients: whose each request is, and how the clients of each wait and draw. The first population
-- has the storm's patience, and draws on what the storm has; its share is what the others leave.
use Rattle.std.specs.Prelude.{ℕ, suc, zero, ◌+◌, ◌*◌, ◌%◌, ◌≤◌, ◌≡◌, ◌==◌, nat_lt, if◌then◌else◌}
use Rattle.sched_storm_limit.specs.declared.draws.Draws.{Draws}
use Rattle.sched_storm_limit.specs.declared.draws.Draws.TheVariants.{Nothing}
use Rattle.sched_storm.specs.declared.parameters.Parameters.{Parameters}
use Rattle.sched_storm.specs.declared.populations.Population.{Population}
use Rattle.sched_storm.specs.declared.populations.Others.{Others}

pub record IsPopulation (u : Population) : Type 0 where
  pub patience : u.patience ≤ 3600000
  pub waits : 1 ≤ u.share → 1 ≤ u.patience

-- the others leave the first population one request in a hundred at least
pub record AreOthers (o : Others) : Type 0 where
  pub shares : o.second.share + o.third.share + o.fourth.share ≤ 99
  pub second : IsPopulation o.second
  pub third : IsPopulation o.third
  pub fourth : IsPopulation o.fourth

-- the place of a request among its hundred: 61 and 100 have no divisor, so that each place is that of one request in a
-- hundred, and a share of the places is spread over them
abbrev pub place_of : ℕ → ℕ
place_of r = r % 100 * 61 % 100

-- the population, from 0, that a place belongs to
abbrev pub population_at : Others → ℕ → ℕ
population_at o place =
    if nat_lt place o.second.share then 1
    else (if nat_lt place (o.second.share + o.third.share) then 2
    else (if nat_lt place (o.second.share + o.third.share + o.fourth.share) then 3 else 0))

-- the population whose request this is
abbrev pub population_of : Parameters → ℕ → ℕ
population_of p r = population_at p.others (place_of r)

-- how long the clients of a population wait; where there is no such population it is as the first
abbrev pub patience_in : Parameters → Population → ℕ
patience_in p u = if u.share == 0 then p.patience else u.patience

abbrev pub patience_of : Parameters → ℕ → ℕ
patience_of p zero = p.patience
patience_of p (suc zero) = patience_in p p.others.second
patience_of p (suc (suc zero)) = patience_in p p.others.third
patience_of p _ = patience_in p p.others.fourth

-- what the retries of its clients draw on
abbrev pub draws_in : Parameters → Population → Draws
draws_in p u = if u.is_limited then p.draws else Nothing

abbrev pub draws_of : Parameters → ℕ → Draws
draws_of p zero = p.draws
draws_of p (suc zero) = draws_in p p.others.second
draws_of p (suc (suc zero)) = draws_in p p.others.third
draws_of p _ = draws_in p p.others.fourth

-- the storm as the clients of a population meet it
abbrev pub as_population : Parameters → ℕ → Parameters
as_population p k = record p { patience = patience_of p k; draws = draws_of p k }

-- the storm as the client of a request meets it
abbrev pub storm_of : Parameters → ℕ → Parameters
storm_of p r = as_population p (population_of p r)

-- all populations draw on what the storm has
abbrev pub AllDraw : Parameters → Type 0
AllDraw p = (k : ℕ) → draws_of p k ≡ p.draws
