-- What is due is played: the course stands as one event more leaves it.
use Rattle.std.proofs.Common.{◌≡◌, ◌≢◌, ℕ, ◌+◌, ◌<◌, ◌≤◌, Bool, true, false, cond, eqb, eqb-true, eq-eqb, ltb}
use Rattle.std.proofs.Common.{ltb-true, ltb-false, lt-ltb, le-ltb, List, [], ◌∷◌, ◌++◌, length, length-append, Option}
use Rattle.std.proofs.Common.{Some, None, IsTrue, refl, sym, ◌∙◌, ap, subst, inl, inr, arith}
use Rattle.std.proofs.lemmas.Bool.{false≢true, cases_lt}
use Rattle.std.proofs.lemmas.List.Sums.{sum_by-append, sum_by-cons}
use Rattle.std.specs.Prelude.{count_by}
use Rattle.sched_plan.specs.Schedule.{Schedule}
use Rattle.sched_storm_trace.specs.Trace.{Due, Event, Answer, updated, NotAfter, IsBeginning, told_by}
use Rattle.sched_storm.specs.Populations.{population_of, storm_of}
use Rattle.sched_storm.specs.Clients.{client_at, plans_of, Meet}
use Rattle.sched_storm.specs.Reported.{reported}
use Rattle.sched_storm.specs.declared.clients.Client.{Client}
use Rattle.sched_storm.proofs.Reports.{reported_push}
use Rattle.sched_storm_trace.proofs.Traces.{one_more, told_push}
use Rattle.sched_storm_report.specs.Told.{AreTold}
use Rattle.sched_storm_report.specs.declared.peer.Peer.{Peer}
use Rattle.sched_storm_report.specs.declared.moments.Moment.{Moment}
use Rattle.sched_storm.specs.Parameters.{peer_of}
use Rattle.sched_storm.specs.Arrivals.{AreArrivals, all_requests, comes_at}
use Rattle.sched_storm.specs.Tickets.{asked_of, given_of}
use Rattle.sched_storm.specs.Plays.{Stage, Shared, start_at, first}
use Rattle.sched_storm.specs.Plays.{played}
use Rattle.sched_storm.specs.Turns.{kind_of, begins_call, turn_if}
use Rattle.sched_storm.specs.Keys.{Holds}
use Rattle.sched_storm.specs.Storms.{calls_of}
use Rattle.sched_storm_report.specs.Moments.{is_call}
use Rattle.sched_storm.specs.Course.{shared_of, client_of, slot_of, Drives, calls_told, HasAnswered, Rests, IsPlacedAt}
use Rattle.sched_storm.specs.Course.{IsPlacedBy, came}
use Rattle.sched_storm.specs.Course.{IsCounted, keys_of, IsOther, IsOut, IsNear, Stands}
use Rattle.sched_storm.specs.Course.{IsLeast, IsTurnOf, StandsAfter}
use Rattle.sched_storm.specs.declared.parameters.Parameters.{Parameters}
use Rattle.sched_storm.specs.declared.turns.Kind.{Kind}
use Rattle.sched_storm.specs.declared.turns.Kind.TheVariants.{Begins, Retries, Succeeds, Fails}
use Rattle.sched_storm.specs.declared.turns.Turn.{Turn}
use Rattle.sched_storm.specs.declared.course.Course.{Course}
use Rattle.sched_storm.proofs.Played.{due_next, played_asked, played_given, call_told}

up : (a b c : ℕ) → a ≤ b → b ≤ c → a ≤ c
up a b c h k = omega arith

-- the request of a turn came by then, and another came only where it had
came_by : (k : Kind) (r requests : ℕ) → IsPlacedAt k r requests → r < requests + came k
came_by Begins r requests h = omega arith
came_by Retries r requests h = omega arith
came_by Succeeds r requests h = omega arith
came_by (Fails failure) r requests h = omega arith

few_came : (k : Kind) (r requests all : ℕ) → IsPlacedAt k r requests → r < all → requests ≤ all →
    requests + came k ≤ all
few_came Begins r requests all h few most = omega arith
few_came Retries r requests all h few most = omega arith
few_came Succeeds r requests all h few most = omega arith
few_came (Fails failure) r requests all h few most = omega arith

other_came : (k : Kind) (r q requests : ℕ) → IsPlacedAt k r requests → q ≢ r → (b : Bool) → ltb q requests ≡ b →
    ltb q (requests + came k) ≡ b
other_came k r q requests h other true s = let less = ltb-true q requests s in
    lt-ltb q (requests + came k) (omega arith)
other_came Begins r q requests h other false s =
    let more = ltb-false q requests s in
    elim (cases_lt requests q) [
      | inl k ↦ le-ltb q (requests + 1) (omega arith)
      | inr k ↦ (let same : q ≡ r = omega arith in absurd (other same))
    ]
other_came Retries r q requests h other false s = let more = ltb-false q requests s in
    le-ltb q (requests + 0) (omega arith)
other_came Succeeds r q requests h other false s = let more = ltb-false q requests s in
    le-ltb q (requests + 0) (omega arith)
other_came (Fails failure) r q requests h other false s = let more = ltb-false q requests s in
    le-ltb q (requests + 0) (omega arith)

placed_later : (k l : Kind) (r q requests : ℕ) → IsPlacedAt k r requests → q ≢ r → IsPlacedBy l q requests →
    IsPlacedBy l q (requests + came k)
placed_later k Retries r q requests h other p = omega arith
placed_later k Succeeds r q requests h other p = omega arith
placed_later k (Fails failure) r q requests h other p = omega arith
placed_later Begins Begins r q requests h other p =
    elim (cases_lt requests q) [
      | inl k ↦ omega arith
      | inr k ↦ (let same : q ≡ r = omega arith in absurd (other same))
    ]
placed_later Retries Begins r q requests h other p = omega arith
placed_later Succeeds Begins r q requests h other p = omega arith
placed_later (Fails failure) Begins r q requests h other p = omega arith

placed_by : (k : Kind) (r requests : ℕ) → IsPlacedAt k r requests → IsPlacedBy k r requests
placed_by Begins r requests h = omega arith
placed_by Retries r requests h = h
placed_by Succeeds r requests h = h
placed_by (Fails failure) r requests h = h

few_calls_if : (b : Bool) (calls most : ℕ) → calls ≤ most → (IsTrue b → calls < most) → calls + cond b 1 0 ≤ most
few_calls_if true calls most h room = let less = room refl in omega arith
few_calls_if false calls most h room = omega arith

module _ (old new : Course) (turn : Turn) (d : Due Stage) (next : Option Turn) (was : Stands old (Some turn))
    (due_is : was.due turn.request ≡ Some d) (not_held : was.held turn.request ≡ None)
    (placed : IsPlacedAt (kind_of d.what) turn.request old.requests)
    (least : IsLeast was.due d.at turn.request)
    (answered : HasAnswered (played old.storm (plans_of old.clients) (shared_of old) turn.request d) d.at turn.request
    old new next)
    (rests : Rests d.at turn.request old new)
    (counted : IsCounted (kind_of d.what) old new)
    (room : IsTrue (begins_call (storm_of old.storm turn.request) (shared_of old) turn.request d.at (kind_of d.what)) →
    old.calls < old.storm.calls) where
  abbrev r : ℕ
  r = turn.request

  -- the plans, and the storm and the plan as the request's population has them
  abbrev plans : ℕ → Schedule
  plans = plans_of old.clients

  abbrev p : Parameters
  p = storm_of old.storm r

  abbrev plan : Schedule
  plan = plans (population_of old.storm r)

  same_client : (q : ℕ) → client_of new q ≡ client_of old q
  same_client q = λ i. client_at (population_of (rests.storm i) q) (rests.clients i)

  abbrev after : Answer Stage Shared Moment
  after = played old.storm plans (shared_of old) r d

  abbrev event : Event Stage
  event = record { request = r; due = d; next = after.next }

  abbrev events : List (Event Stage)
  events = was.events ++ event ∷ []

  abbrev due : ℕ → Option (Due Stage)
  due = updated was.due r after.next

  near_here : IsNear old r d
  near_here = was.near r d due_is

  begun_old : IsBeginning (played old.storm plans) (first old.arrivals.now old.storm)
      (start_at old.arrivals.now old.storm) events due after.shared
  begun_old = one_more (played old.storm plans) (first old.arrivals.now old.storm)
      (start_at old.arrivals.now old.storm) was.events was.due
      (shared_of old) event was.begun due_is refl
      least answered.later

  begun_new : IsBeginning (played new.storm (plans_of new.clients)) (first new.arrivals.now new.storm)
      (start_at new.arrivals.now new.storm) events due
      (shared_of new)
  begun_new =
      subst (λ ms. IsBeginning (played new.storm (plans_of new.clients)) (first ms new.storm) (start_at ms new.storm)
      events due (shared_of new)) (sym rests.arrivals)
      (subst (λ p. IsBeginning (played p (plans_of new.clients)) (first old.arrivals.now p)
      (start_at old.arrivals.now p)
      events due (shared_of new)) (sym rests.storm)
      (subst (λ cs. IsBeginning (played old.storm (plans_of cs)) (first old.arrivals.now old.storm)
      (start_at old.arrivals.now old.storm) events due
      (shared_of new)) (sym rests.clients)
      (subst (λ s. IsBeginning (played old.storm plans) (first old.arrivals.now old.storm)
      (start_at old.arrivals.now old.storm) events due s)
      (sym answered.shared_is) begun_old)))

  told_new : (peer : Peer) → peer ≡ peer_of new.storm →
      AreTold peer (reported new.storm (plans_of new.clients) new.reporter.of
      (start_at new.arrivals.now new.storm) events)
      new.reporter.tally
  told_new peer is =
      let is_old : peer ≡ peer_of old.storm = is ∙ ap peer_of rests.storm in
      let told = answered.told peer (reported old.storm plans old.reporter.of
      (start_at old.arrivals.now old.storm) was.events) is_old
      (was.told peer is_old) in
      let pushed = reported_push old.storm plans old.reporter.of (start_at old.arrivals.now old.storm) was.events
      (shared_of old) event was.begun.answers in
      subst (λ ms. AreTold peer (reported new.storm (plans_of new.clients) new.reporter.of
      (start_at ms new.storm) events)
      new.reporter.tally) (sym rests.arrivals)
      (subst (λ p. AreTold peer (reported p (plans_of new.clients) new.reporter.of (start_at old.arrivals.now p) events)
      new.reporter.tally) (sym rests.storm)
      (subst (λ cs. AreTold peer (reported old.storm (plans_of cs) new.reporter.of
      (start_at old.arrivals.now old.storm) events)
      new.reporter.tally) (sym rests.clients)
      (subst (λ o. AreTold peer (reported old.storm plans o
      (start_at old.arrivals.now old.storm) events) new.reporter.tally)
      (sym rests.of)
      (subst (λ ms. AreTold peer ms new.reporter.tally) (sym pushed) told))))

  requests_new : new.requests ≡ old.requests + came (kind_of d.what)
  requests_new = counted.requests_are

  came_here : r < new.requests
  came_here = let came = came_by (kind_of d.what) r old.requests placed in let more = requests_new in omega arith

  out_if : (o : Option (Due Stage)) → after.next ≡ o → IsOut new.requests (updated was.due r o) was.held (turn_if r o)
  out_if None at = tt
  out_if (Some e) at = record {
    call = e;
    is_due = ap (λ b. cond b (Some e) (was.due r)) (eq-eqb r r refl);
    turn_is = refl;
    not_held = not_held;
    placed = (due_next p plan (shared_of old) r d.at d.what e at).placed r new.requests came_here;
  }

  other_if : (o : Option (Due Stage)) (q : ℕ) → IsOther (turn_if r o) q → (b : Bool) → eqb r q ≡ b →
      cond b o (was.due q) ≡ cond (ltb q new.requests) (was.held q) (first new.arrivals.now new.storm q)
  other_if None q other true s =
      let same : r ≡ q = eqb-true r q s in
      let came : ltb q new.requests ≡ true = lt-ltb q new.requests (let here = came_here in omega arith) in
      rw came (sym not_held ∙ ap was.held same)
  other_if (Some e) q other true s = absurd (other (sym (eqb-true r q s)))
  other_if o q other false s =
      let apart : q ≢ r = λ same. false≢true (sym s ∙ eq-eqb r q (sym same)) in
      let before = was.others q apart in
      let as_before : ltb q new.requests ≡ ltb q old.requests =
      ap (λ n. ltb q n) requests_new ∙ other_came (kind_of d.what) r q old.requests placed apart
      (ltb q old.requests) refl in
      before ∙ (λ i. cond (sym as_before i) (was.held q) (first (sym rests.arrivals i) (sym rests.storm i) q))

  near_if : (q : ℕ) (e : Due Stage) (b : Bool) → eqb r q ≡ b → cond b after.next (was.due q) ≡ Some e → IsNear new q e
  near_if q e true s at =
      let same : r ≡ q = eqb-true r q s in
      let next_is = due_next p plan (shared_of old) r d.at d.what e at in
      let later = answered.later e at in
      let by = next_is.by in
      let begun = near_here.begun in
      let from = rests.from in
      subst (λ x. IsNear new x e) same (record {
        by = rw rests.storm by;
        number = rw (rests.arrivals, rests.storm) (near_here.number);
        begun = rw (rests.arrivals, rests.storm) (up (comes_at old.arrivals.now old.storm r) d.at e.at begun later);
        placed = placed_by (kind_of e.what) r new.requests (next_is.placed r new.requests came_here);
        told = omega arith;
        drives = subst (λ (u : Client). Drives u.plan (slot_of new r) e.at e.what) (sym (same_client r))
            (answered.drives e at);
      })
  near_if q e false s at =
      let apart : q ≢ r = λ same. false≢true (sym s ∙ eq-eqb r q (sym same)) in
      let near = was.near q e at in
      let order = (least q e at).moment in
      let from = rests.from in
      record {
        by = rw rests.storm near.by;
        number = rw (rests.arrivals, rests.storm) near.number;
        begun = rw (rests.arrivals, rests.storm) near.begun;
        placed = rw requests_new (placed_later (kind_of d.what)
            (kind_of e.what) r q old.requests placed apart near.placed);
        told = omega arith;
        drives = subst (λ (u : Client). Drives u.plan (slot_of new q) e.at e.what) (sym (same_client q))
            (subst (λ o. Drives (client_of old q).plan o e.at e.what) (sym (rests.others q apart)) near.drives);
      }

  calls_more : calls_of old.arrivals.now old.storm plans events
      ≡ calls_of old.arrivals.now old.storm plans was.events + calls_told after.told
  calls_more =
      let ms : List Moment = told_by (played old.storm plans) (start_at old.arrivals.now old.storm) was.events in
      let pushed = ap (λ ms. count_by (λ (m : Moment). is_call m.what) ms)
      (told_push (played old.storm plans) (start_at old.arrivals.now old.storm) was.events
      (shared_of old) event was.begun.answers) in
      let all = sum_by-append (λ (m : Moment). cond (is_call m.what) 1 0) ms (after.told ∷ []) in
      let one = sum_by-cons (λ (m : Moment). cond (is_call m.what) 1 0) after.told [] in
      omega arith

  calls_same : calls_of new.arrivals.now new.storm (plans_of new.clients) events
      ≡ calls_of old.arrivals.now old.storm plans events
  calls_same = ap (λ ms. calls_of ms new.storm (plans_of new.clients) events) rests.arrivals
      ∙ (ap (λ p. calls_of old.arrivals.now p (plans_of new.clients) events) rests.storm
      ∙ ap (λ cs. calls_of old.arrivals.now old.storm (plans_of cs) events) rests.clients)

  few_calls_new : new.calls ≤ old.storm.calls
  few_calls_new =
      let calls = answered.calls in
      let few = few_calls_if (is_call after.told.what) old.calls old.storm.calls was.few_calls
      (λ is. room (subst (λ b. IsTrue b) (call_told p plan (shared_of old) r d.at d.what) is)) in
      omega arith

  length_more : length events ≡ length was.events + 1
  length_more = length-append was.events (event ∷ [])

  pub stands_after : Stands new next
  stands_after = record {
    events = events;
    due = due;
    held = was.held;
    begun = begun_new;
    told = told_new;
    clients = subst (λ p. Meet p new.clients) (sym rests.storm)
        (subst (λ cs. Meet old.storm cs) (sym rests.clients) was.clients);
    holds = subst (λ a. Holds a (keys_of was.held)) (sym rests.agenda) was.holds;
    out = subst (λ o. IsOut new.requests due was.held o) (sym answered.next_is) (out_if after.next refl);
    others = λ q other. other_if after.next q (subst (λ o. IsOther o q) answered.next_is other) (eqb r q) refl;
    unheld = λ q h. was.unheld q (let more = requests_new in omega arith);
    near = λ q e at. near_if q e (eqb r q) refl at;
    in_range = rw rests.storm was.in_range;
    moments = subst AreArrivals (sym rests.arrivals) was.moments;
    comes = rw (rests.arrivals, rests.storm) (counted.comes was.comes);
    requests = rw (rests.arrivals, rests.storm, requests_new) (few_came (kind_of d.what) r old.requests
        (all_requests old.arrivals.now old.storm) placed near_here.number was.requests);
    slots = rests.slots;
    calls = answered.calls
        ∙ (ap {B = ℕ} (λ n. n + calls_told after.told) was.calls ∙ (sym calls_more ∙ sym calls_same));
    few_calls = rw rests.storm few_calls_new;
    busy = rests.busy;
    asked =
        let shared = ap (λ (s : Shared). asked_of s.drawn) answered.shared_is in
        let asked = played_asked p plan (shared_of old) r d.at d.what in
        let before = was.asked in
        let more = requests_new in
        omega arith;
    given =
        let shared = ap (λ (s : Shared). given_of s.drawn) answered.shared_is in
        let given = played_given p plan (shared_of old) r d.at d.what in
        let before = was.given in
        let more = length_more in
        omega arith;
    said = rests.said;
    number = let events = rests.events in let before = was.number in let more = length_more in omega arith;
    window = rests.window ∙ (was.window ∙ ap (λ (p : Parameters). p.window) (sym rests.storm));
  }

  later_if : (q : ℕ) (e : Due Stage) (b : Bool) → eqb r q ≡ b → cond b after.next (was.due q) ≡ Some e →
      NotAfter d.at r e.at q
  later_if q e true s at =
      let same : r ≡ q = eqb-true r q s in
      record { moment = answered.later e at; number = λ _. omega arith }
  later_if q e false s at = least q e at

  turn_of_it : (o : Option (Due Stage)) → IsTurnOf r new.requests (turn_if r o)
  turn_of_it None = tt
  turn_of_it (Some e) = (refl, came_here)

  pub stands_later : StandsAfter d.at r new next
  unfolding stands_after
  stands_later = record {
    stands = stands_after;
    later = λ q e at. later_if q e (eqb r q) refl at;
    turn_is = subst (λ o. IsTurnOf r new.requests o) (sym answered.next_is) (turn_of_it after.next);
  }
