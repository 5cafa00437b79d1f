-- Retries in flight are at most the bound that the requests in flight give, and these at most the most.
use Rattle.sched_limit.proofs.Flights.{grants_are_within_the_bound, requests_stay_within}
use Rattle.sched_limit.proofs.FlightsHeld.{in_flight_is_counted}
use Rattle.sched_limit.proofs.laws.retries_are_bounded.Goals as goal

pub returns-clause-bounded : goal.returns-clause-bounded
returns-clause-bounded c = grants_are_within_the_bound

pub returns-clause-most : goal.returns-clause-most
returns-clause-most c = requests_stay_within

pub returns-clause-counted : goal.returns-clause-counted
returns-clause-counted c = in_flight_is_counted
