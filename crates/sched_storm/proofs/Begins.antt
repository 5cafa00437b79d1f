-- A course before the first event.
use Rattle.std.proofs.Common.{◌≡◌, ℕ, ◌≤◌, false, cond, ltb, le-ltb, [], get_or, vec_len}
use Rattle.std.proofs.Common.{Some, None, refl, sym, ◌∙◌, ap, subst, arith}
use Rattle.rand_xoshiro.specs.Xoshiro128.{of_seed}
use Rattle.rand_xoshiro.specs.SplitMix64.{splitmix_seed}
use Rattle.sched_storm_trace.specs.Trace.{Due}
use Rattle.sched_storm_report.specs.Peer.{none_busy}
use Rattle.sched_storm_report.specs.Told.{AreTold}
use Rattle.sched_storm_report.specs.declared.peer.Peer.{Peer}
use Rattle.sched_storm_limit.specs.Limits.{state_at_first}
use Rattle.sched_storm_limit.specs.States.{state_of}
use Rattle.sched_storm.specs.Parameters.{AreInRange}
use Rattle.sched_storm.specs.Arrivals.{AreArrivals, comes_at}
use Rattle.sched_storm.specs.Calls.{AreFew}
use Rattle.sched_storm.specs.Tickets.{none_drawn, asked_of, given_of}
use Rattle.sched_storm.specs.Drivers.{DriverStands}
use Rattle.sched_storm.specs.Plays.{Stage, words_of, start_at, first}
use Rattle.sched_storm.specs.Keys.{Holds}
use Rattle.sched_storm.specs.Clients.{Meet}
use Rattle.sched_storm.specs.Course.{shared_of, client_of, slot_of, IsNear, Stands}
use Rattle.sched_storm.specs.declared.course.Course.{Course}
use Rattle.sched_storm.proofs.Called.{few_none}
use Rattle.sched_storm.proofs.Taken.{comes_by}

no_more : (a : ℕ) → a ≤ a
no_more a = omega arith

-- what a course has before the first event
pub record HasNothing (c : Course) : Type 0 where
  pub in_range : AreInRange c.storm
  pub moments : AreArrivals c.arrivals.now
  pub words : c.words ≡ of_seed (splitmix_seed 16 c.storm.words)
  pub requests : c.requests ≡ 0
  pub comes : c.comes ≡ comes_at c.arrivals.now c.storm 0
  pub calls : c.calls ≡ 0
  pub busy : c.busy ≡ none_busy
  pub drawn : c.drawn ≡ none_drawn
  pub limit : state_of c.limit ≡ state_at_first c.storm.draws c.storm.words
  pub slots : c.drivers.slots.items ≡ []
  pub slots_len : vec_len c.drivers.slots ≡ 0
  pub agenda : Holds c.agenda (λ _. None)
  pub clients : Meet c.storm c.clients
  pub told : (peer : Peer) → AreTold peer [] c.reporter.tally
  pub window : c.reporter.tally.window ≡ c.storm.window
  pub from : c.reporter.tally.from ≡ 0
  pub said : c.reporter.tally.said ≡ 0
  pub events : c.reporter.events ≡ 0

module _ (c : Course) (h : HasNothing c) where
  shared_is : start_at c.arrivals.now c.storm ≡ shared_of c
  shared_is =
      let words = h.words in
      let busy = h.busy in
      let calls = h.calls in
      let drawn = h.drawn in
      let limit = h.limit in
      λ i. record {
        arrivals = c.arrivals.now;
        busy = sym busy i;
        calls = sym calls i;
        words = words_of (sym words i);
        drawn = sym drawn i;
        limit = sym limit i;
      }

  no_slot : (r : ℕ) → slot_of c r ≡ None
  no_slot r = ap (λ xs. get_or xs r None) h.slots

  near_first : (r : ℕ) (d : Due Stage) → first c.arrivals.now c.storm r ≡ Some d → IsNear c r d
  near_first r d is =
      let by = comes_by c.arrivals.now c.storm r d is in
      let few = by.few in
      let near = by.by in
      let from = h.from in
      let requests = h.requests in
      subst (λ e. IsNear c r e) (sym by.is) (record {
        by = near;
        number = few;
        begun = no_more (comes_at c.arrivals.now c.storm r);
        placed = omega arith;
        told = omega arith;
        drives = subst (λ o. DriverStands (client_of c r).plan o []) (sym (no_slot r)) refl;
      })

  none_came : (r : ℕ) → first c.arrivals.now c.storm r ≡ cond (ltb r c.requests) None (first c.arrivals.now c.storm r)
  none_came r =
      let none : ltb r c.requests ≡ false = le-ltb r c.requests (let requests = h.requests in omega arith) in
      ap (λ b. cond b None (first c.arrivals.now c.storm r)) (sym none)

  pub stands_at_first : Stands c None
  stands_at_first = record {
    events = [];
    due = first c.arrivals.now c.storm;
    held = λ _. None;
    begun = record { in_order = tt; each_request = λ r. refl; answers = shared_is; none_after = λ r d is. tt };
    told = λ peer is. h.told peer;
    holds = h.agenda;
    out = tt;
    others = λ r _. none_came r;
    unheld = λ r more. refl;
    near = near_first;
    in_range = h.in_range;
    moments = h.moments;
    comes = h.comes ∙ ap (comes_at c.arrivals.now c.storm) (sym h.requests);
    requests = (let requests = h.requests in omega arith);
    slots = h.slots_len ∙ sym h.requests;
    calls = h.calls;
    few_calls = (let calls = h.calls in omega arith);
    busy = subst (λ b. AreFew b) (sym h.busy) few_none;
    clients = h.clients;
    asked = (let asked = ap asked_of h.drawn in let requests = h.requests in omega arith);
    given = (let given = ap given_of h.drawn in omega arith);
    said = (let said = h.said in let events = h.events in omega arith);
    number = h.events;
    window = h.window;
  }
