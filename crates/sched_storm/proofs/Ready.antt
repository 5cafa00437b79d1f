-- A course whose turn is least due can play it, stands after it, and is over where it is cut or nothing is due.
use Rattle.std.proofs.Common.{◌≡◌, ◌≢◌, inl, inr, ℕ, ◌+◌, ◌*◌, ◌<◌, ◌≤◌, true, false, Option, Some}
use Rattle.std.proofs.Common.{None, IsTrue, sym, ◌∙◌, ap, subst, arith}
use Rattle.std.proofs.lemmas.Bool.{cases_lt}
use Rattle.sched_storm_trace.specs.Trace.{Due, NotAfter}
use Rattle.sched_storm.specs.Arrivals.{all_requests, comes_at}
use Rattle.sched_storm.specs.Populations.{population_of, storm_of}
use Rattle.sched_storm.specs.Clients.{plans_of}
use Rattle.sched_storm.specs.Plays.{Stage, begins, retries, succeeds, fails, playing, played}
use Rattle.sched_storm_report.specs.Moments.{is_call}
use Rattle.sched_storm.specs.Turns.{kind_of, begins_call}
use Rattle.sched_storm.specs.Storms.{CallIsNext}
use Rattle.sched_storm.specs.Course.{client_of, answer_to, shared_of, slot_of, Drives, IsReady, HasAnswered, Rests}
use Rattle.sched_storm.specs.Course.{IsPlacedAt, IsDrivenAt}
use Rattle.sched_storm.specs.Course.{IsDriven, IsCounted, Stands, StandsFirst, StandsAfter, IsOver}
use Rattle.sched_storm.specs.declared.turns.Turn.{Turn}
use Rattle.sched_storm.specs.declared.clients.Client.{Client}
use Rattle.sched_storm.specs.declared.course.Course.{Course}
use Rattle.sched_storm.proofs.Length.{few_events}
use Rattle.sched_storm.proofs.Moments.{few_in_all}
use Rattle.sched_storm.proofs.Played.{call_told}
use Rattle.sched_storm.proofs.Steps.{stands_later}

-- how many events there were, at most two for each call, and one for each request
pub few_said : (c : Course) (hand : Option Turn) → Stands c hand →
    c.reporter.events ≤ 2 * c.storm.calls + all_requests c.arrivals.now c.storm
few_said c hand h =
    let few = few_events c.arrivals.now c.storm (plans_of c.clients) h.events h.due (shared_of c) h.begun in
    let number = h.number in
    let calls = h.calls in
    let most = h.few_calls in
    omega arith

pub less_of : (a b : ℕ) → a ≤ b → a ≢ b → a < b
less_of a b h other = elim (cases_lt a b) [
  | inl k ↦ k
  | inr k ↦
      (let same : a ≡ b = omega arith in absurd (other same))
]

module _ (c : Course) (turn : Turn) (h : StandsFirst c (Some turn)) where
  abbrev d : Due Stage
  d = h.stands.out.call

  pub at_is : turn.at ≡ d.at
  at_is = ap (λ (t : Turn). t.at) h.stands.out.turn_is

  pub kind_is : turn.kind ≡ kind_of d.what
  kind_is = ap (λ (t : Turn). t.kind) h.stands.out.turn_is

  pub ready : IsReady c turn.at turn.request
  ready =
      let near = h.stands.near turn.request d h.stands.out.is_due in
      let by = near.by in
      let begun = near.begun in
      let told = near.told in
      let number = near.number in
      let at = at_is in
      let all = few_in_all c.arrivals.now c.storm h.stands.moments h.stands.in_range.requests in
      let until = h.stands.in_range.report.until in
      let most = h.stands.in_range.report.calls in
      let few = few_said c (Some turn) h.stands in
      let said = h.stands.said in
      let given = h.stands.given in
      let asked = h.stands.asked in
      let requests = h.stands.requests in
      let calls = h.stands.few_calls in
      record {
        client = h.stands.clients (population_of c.storm turn.request);
        at = omega arith;
        near = until;
        number = omega arith;
        begun = subst (λ t. comes_at c.arrivals.now c.storm turn.request ≤ t) (sym at_is) begun;
        slots = h.stands.slots;
        requests = omega arith;
        calls = omega arith;
        busy = h.stands.busy;
        asked = omega arith;
        given = omega arith;
        told = omega arith;
        said = said;
        events = omega arith;
      }

  drives : Drives (client_of c turn.request).plan (slot_of c turn.request) d.at d.what
  drives = (h.stands.near turn.request d h.stands.out.is_due).drives

  driven_of : (what : Stage) (t r : ℕ) → Drives (client_of c r).plan (slot_of c r) t what →
      IsDrivenAt (kind_of what) c t r
  driven_of begins t r k = tt
  driven_of (retries g) t r k = tt
  driven_of succeeds t r k = tt
  driven_of (fails failure g) t r k = record { history = g; stands = k.0; order = k.1 }

  pub driven : IsDriven c turn
  driven =
      subst (λ k. IsDrivenAt k c turn.at turn.request) (sym kind_is)
      (subst (λ t. IsDrivenAt (kind_of d.what) c t turn.request) (sym at_is)
      (driven_of d.what d.at turn.request drives))

  -- the clients whose turn it is
  abbrev u : Client
  u = client_of c turn.request

  pub step_after : (new : Course) (next : Option Turn) →
      ((what : Stage) → kind_of what ≡ turn.kind → Drives u.plan (slot_of c turn.request) turn.at what →
      HasAnswered (answer_to u c turn.request turn.at what) turn.at turn.request c new next) →
      Rests turn.at turn.request c new → IsCounted turn.kind c new →
      (IsTrue (begins_call u.storm (shared_of c) turn.request turn.at turn.kind) → c.calls < c.storm.calls) →
      StandsAfter turn.at turn.request new next
  step_after new next answered rests counted room =
      let r = turn.request in
      let meets = h.stands.clients (population_of c.storm r) in
      let here = answered d.what (sym kind_is) (subst (λ t. Drives u.plan (slot_of c r) t d.what) (sym at_is) drives) in
      let answer = subst (λ p. HasAnswered (playing p u.plan (shared_of c) r d.at d.what) d.at r c new next) meets
      (subst (λ t. HasAnswered (answer_to u c r t d.what) t r c new next) at_is here)
      in
      let rest = subst (λ t. Rests t r c new) at_is rests in
      let count = subst (λ k. IsCounted k c new) kind_is counted in
      let may : IsTrue (begins_call (storm_of c.storm r) (shared_of c) r d.at (kind_of d.what)) →
      c.calls < c.storm.calls =
      subst (λ p. IsTrue (begins_call p (shared_of c) r d.at (kind_of d.what)) → c.calls < c.storm.calls) meets
      (subst (λ t. IsTrue (begins_call u.storm (shared_of c) r t (kind_of d.what)) → c.calls < c.storm.calls) at_is
      (subst (λ k. IsTrue (begins_call u.storm (shared_of c) r turn.at k) → c.calls < c.storm.calls) kind_is room)) in
      let placed = subst (λ k. IsPlacedAt k r c.requests) kind_is h.stands.out.placed in
      let least = λ (q : ℕ) (e : Due Stage) (is : h.stands.due q ≡ Some e). subst (λ t. NotAfter t r e.at q) at_is
      (h.first_is q e is) in
      subst (λ t. StandsAfter t r new next) (sym at_is)
      (stands_later c new turn d next h.stands h.stands.out.is_due h.stands.out.not_held placed least answer rest count
      may)

  pub is_cut : IsTrue (begins_call u.storm (shared_of c) turn.request turn.at turn.kind) → c.calls ≡ c.storm.calls →
      IsOver c true
  is_cut call full =
      let r = turn.request in
      let p = storm_of c.storm r in
      let meets = h.stands.clients (population_of c.storm r) in
      let few = few_said c (Some turn) h.stands in
      let said = h.stands.said in
      let most = h.stands.in_range.report.calls in
      let calls : IsTrue (is_call (played c.storm (plans_of c.clients) (shared_of c) r d).told.what) =
      subst (λ b. IsTrue b) (sym (call_told p u.plan (shared_of c) r d.at d.what))
      (subst (λ p. IsTrue (begins_call p (shared_of c) r d.at (kind_of d.what))) meets
      (subst (λ t. IsTrue (begins_call u.storm (shared_of c) r t (kind_of d.what))) at_is
      (subst (λ k. IsTrue (begins_call u.storm (shared_of c) r turn.at k)) kind_is call))) in
      let all = few_in_all c.arrivals.now c.storm h.stands.moments h.stands.in_range.requests in
      let next : CallIsNext c.storm (plans_of c.clients) h.stands.due (shared_of c) = record {
        request = r;
        call = d;
        is_due = h.stands.out.is_due;
        calls = calls;
        least = λ q e is. subst (λ t. NotAfter t r e.at q) at_is (h.first_is q e is);
      } in
      record {
        events = h.stands.events;
        is_storm = record {
          due = h.stands.due;
          last = shared_of c;
          plays = h.stands.begun;
          ends = (sym h.stands.calls ∙ full, next);
        };
        told = h.stands.told;
        in_range = h.stands.in_range;
        said = omega arith;
        window = h.stands.window;
      }

pub is_done : (c : Course) → StandsFirst c None → IsOver c false
is_done c h =
    let few = few_said c None h.stands in
    let said = h.stands.said in
    let most = h.stands.in_range.report.calls in
    let all = few_in_all c.arrivals.now c.storm h.stands.moments h.stands.in_range.requests in
    let calls = h.stands.few_calls in
    let of = h.stands.calls in
    record {
      events = h.stands.events;
      is_storm = record {
        due = h.stands.due;
        last = shared_of c;
        plays = h.stands.begun;
        ends = (omega arith, h.first_is);
      };
      told = h.stands.told;
      in_range = h.stands.in_range;
      said = omega arith;
      window = h.stands.window;
    }
