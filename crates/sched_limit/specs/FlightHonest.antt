-- Each request gives back what it holds of what is in flight, and no more.
use Rattle.std.proofs.Common.{arith}
use Rattle.sched_limit.specs.FlightTokens.{flight_tokens, flight_holds}
use Rattle.sched_limit.specs.Holds.{IsHonest}
use Rattle.sched_limit.specs.Kinds.{flight_rules}
use Rattle.sched_limit.specs.declared.in_flight.InFlight.{InFlight}

pub flight_honest : (k : InFlight) → IsHonest (flight_tokens k) (flight_rules k) flight_holds
flight_honest k = record {
  none = λ kind. grind arith;
  uses = λ told random r word kind. grind arith;
  moves = λ told random r word kind. grind arith;
  stays = λ told random r word kind same. grind (arith, same);
  lost = λ told r kind. grind arith;
}
