-- The clients of a storm, by the numbers of their populations.
use Rattle.std.specs.Prelude.{◌≡◌, ℕ, suc, zero}
use Rattle.sched_plan.specs.Schedule.{Schedule}
use Rattle.sched_storm.specs.Populations.{as_population}
use Rattle.sched_storm.specs.declared.parameters.Parameters.{Parameters}
use Rattle.sched_storm.specs.declared.clients.Plans.{Plans}
use Rattle.sched_storm.specs.declared.clients.Client.{Client}
use Rattle.sched_storm.specs.declared.clients.Clients.{Clients}

abbrev pub plan_at : ℕ → Plans → Schedule
plan_at zero ps = ps.first
plan_at (suc zero) ps = ps.second
plan_at (suc (suc zero)) ps = ps.third
plan_at _ ps = ps.fourth

abbrev pub client_at : ℕ → Clients → Client
client_at zero cs = cs.first
client_at (suc zero) cs = cs.second
client_at (suc (suc zero)) cs = cs.third
client_at _ cs = cs.fourth

-- the plan of each population
abbrev pub plans_of : Clients → ℕ → Schedule
plans_of cs k = (client_at k cs).plan

-- each client meets the storm as its population does
abbrev pub Meet : Parameters → Clients → Type 0
Meet p cs = (k : ℕ) → (client_at k cs).storm ≡ as_population p k
