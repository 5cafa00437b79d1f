-- How a course answers what is due of a request, by what its parts gave.
use Rattle.std.proofs.Common.{◌≡◌, ℕ, zero, suc, ◌+◌, ◌<◌, ◌≤◌, Bool, true, false, cond, List, [], ◌∷◌, length}
use Rattle.std.proofs.Common.{get_or, set, Option, Some, None, IfSome, refl, sym, ◌∙◌, ap, subst, arith}
use Rattle.std.proofs.lemmas.Bool.{false≢true}
use Rattle.std.proofs.lemmas.List.{get_or_default}
use Rattle.std.specs.Prelude.{nat_le}
use Rattle.std.specs.Global.{Global}
use Rattle.std_alloc.specs.declared.boxed.Box.{Box}
use Rattle.rand_core.specs.Stream.{Stream}
use Rattle.sched_time.specs.Decision.{start_of}
use Rattle.sched_plan.specs.Schedule.{Schedule}
use Rattle.sched_plan.specs.Answer.{answer}
use Rattle.sched_plan.specs.History.{last_moment}
use Rattle.sched_plan.specs.declared.history.Event.{Event}
use Rattle.sched_plan.proofs.HistoryLaws.{last_moment-push}
use Rattle.sched_task.specs.Words.{next_four}
use Rattle.sched_driver_stepper.specs.Standing.{Standing}
use Rattle.sched_storm_trace.specs.Trace.{Due}
use Rattle.sched_storm_report.specs.Moments.{is_call}
use Rattle.sched_storm_report.specs.declared.moments.Failure.{Failure}
use Rattle.sched_storm_report.specs.declared.moments.Happening.{Happening}
use Rattle.sched_storm_report.specs.declared.moments.Happening.TheVariants as happening
use Rattle.sched_storm_limit.specs.Limits as limits
use Rattle.sched_storm_limit.specs.Limits.{LimitState}
use Rattle.sched_storm_limit.specs.States.{state_of}
use Rattle.sched_storm.specs.Tickets.{draw_at}
use Rattle.sched_storm.specs.Drivers.{input_of, with_failure, DriverStands}
use Rattle.sched_storm.specs.Plays.{Stage, begins, retries, succeeds, fails, Shared, words_of, ending, moment_at}
use Rattle.sched_storm.specs.Plays.{coming, drawing, going_on, with_request, arriving}
use Rattle.sched_storm.specs.Plays.{with_call}
use Rattle.sched_storm.specs.Turns.{kind_of, kind_after, turn_for, turn_if, turn_by, next_drawn, next_at, asking}
use Rattle.sched_storm.specs.Turns.{ending_by}
use Rattle.sched_storm.specs.Populations.{population_of, storm_of}
use Rattle.sched_storm.specs.Arrivals.{comes_at}
use Rattle.sched_storm.specs.Clients.{client_at}
use Rattle.sched_storm.specs.Course.{shared_of, client_of, answer_to, slot_of, Drives, IsReady, Tells, HasAnswered}
use Rattle.sched_storm.specs.declared.parameters.Parameters.{Parameters}
use Rattle.sched_storm.specs.declared.clients.Client.{Client}
use Rattle.sched_storm.specs.declared.calls.CallEnd.{CallEnd}
use Rattle.sched_storm.specs.declared.calls.CallEnd.TheVariants.{Succeeded, Failed}
use Rattle.sched_storm.specs.declared.calls.Called.{Called}
use Rattle.sched_storm.specs.declared.tickets.Drawn.{Drawn}
use Rattle.sched_storm.specs.declared.turns.Kind.{Kind}
use Rattle.sched_storm.specs.declared.turns.Turn.{Turn}
use Rattle.sched_storm.specs.declared.turns.Next.{Next}
use Rattle.sched_storm.specs.declared.course.Course.{Course}

-- ---- lists

pub one_place : {X : Type 0} (xs : List X) (i : ℕ) (a b : X) → i < length xs → get_or xs i a ≡ get_or xs i b
one_place xs i a b h = get_or_default xs i a b h

pub set_twice : {X : Type 0} (xs : List X) (i : ℕ) (a b : X) → set (set xs i a) i b ≡ set xs i b
set_twice [] i a b = refl
set_twice (x ∷ xs) zero a b = refl
set_twice (x ∷ xs) (suc i) a b = ap (λ ys. x ∷ ys) (set_twice xs i a b)

-- ---- the clients whose request it is

pub client_is : (old : Course) (r k : ℕ) (u : Client) → k ≡ population_of old.storm r →
    u ≡ client_at k old.clients → u ≡ client_of old r
client_is old r k u is at = at ∙ ap (λ n. client_at n old.clients) is

-- what they are answered is what the clients of the request are
pub for_client : (old new : Course) (t r : ℕ) (u : Client) (what : Stage) (next : Option Turn) → u ≡ client_of old r →
    HasAnswered (answer_to u old r t what) t r old new next →
    HasAnswered (answer_to (client_of old r) old r t what) t r old new next
for_client old new t r u what next of_r h =
    subst (λ v. HasAnswered (answer_to v old r t what) t r old new next) of_r h

-- they meet the storm as it is
module _ (old : Course) (r : ℕ) (u : Client) (t : ℕ) (of_r : u ≡ client_of old r) (ready : IsReady old t r) where
  pub meets : u.storm ≡ storm_of old.storm r
  meets = ap (λ (v : Client). v.storm) of_r ∙ ready.client

  pub near_by : t ≤ u.storm.until
  near_by =
      let same = ap (λ (p : Parameters). p.until) meets in
      let at = ready.at in
      omega arith

-- ---- what is due next

some_same : {X : Type 0} (a b : X) → Some a ≡ Some b → a ≡ b
some_same a b h = cc

not_none : {X : Type 0} (a : X) → None ≡ Some a → ⊥
not_none a h = cc

by_turn : (until t r : ℕ) (what : Stage) (b : Bool) →
    cond b (Some (record { at = t; request = r; kind = kind_of what })) None
    ≡ turn_if r (cond b (Some (record { at = t; what = what })) None)
by_turn until t r what true = refl
by_turn until t r what false = refl

kind_ends : (how : CallEnd) (h : List Event) → kind_after how ≡ kind_of (ending how h)
kind_ends Succeeded h = refl
kind_ends (Failed failure) h = refl

by_is : (until t : ℕ) (what : Stage) (d : Due Stage) (b : Bool) →
    cond b (Some (record { at = t; what = what })) None ≡ Some d →
    record { at = t; what = what } ≡ d
by_is until t what d true h = some_same (record { at = t; what = what }) d h
by_is until t what d false h = absurd (not_none d h)

-- ---- a call that comes

end_drives : (plan : Schedule) (slot : Option (Box Standing Global)) (h : List Event) (t m : ℕ) (how : CallEnd) →
    DriverStands plan slot h →
    last_moment h ≤ t → t ≤ m → Drives plan slot m (ending how h)
end_drives plan slot h t m Succeeded stands order later = tt
end_drives plan slot h t m (Failed failure) stands order later = (stands, omega arith)

module _ (old new : Course) (t r : ℕ) (u : Client) (of_r : u ≡ client_of old r) (h : List Event) (what : Happening)
    (s : Shared) (c : Called) (kind : Kind) (next : Option Turn) where
  coming_so : kind ≡ kind_after c.how → next ≡ turn_by u.storm.until c.ends r kind →
      shared_of new ≡ with_call u.storm c s → new.calls ≡ old.calls + cond (is_call what) 1 0 →
      Tells old new r (moment_at t what (shared_of new)) → t ≤ c.ends → DriverStands u.plan (slot_of new r) h →
      last_moment h ≤ t →
      HasAnswered (coming u.storm s t h what c) t r old new next
  coming_so kind_is next_is shared calls told later stands order = record {
    next_is = next_is ∙ (ap (turn_by u.storm.until c.ends r) (kind_is ∙ kind_ends c.how h)
        ∙ by_turn u.storm.until c.ends r (ending c.how h) (nat_le c.ends u.storm.until));
    shared_is = shared;
    told = subst (λ m. Tells old new r m) (ap (moment_at t what) shared) told;
    drives = λ d at.
        (let is = by_is u.storm.until c.ends (ending c.how h) d (nat_le c.ends u.storm.until) at in
        subst (λ (v : Client). Drives v.plan (slot_of new r) d.at d.what) of_r
        (subst (λ (x : Due Stage). Drives u.plan (slot_of new r) x.at x.what) is
        (end_drives u.plan (slot_of new r) h t c.ends c.how stands order later)));
    later = λ d at.
        (let is = by_is u.storm.until c.ends (ending c.how h) d (nat_le c.ends u.storm.until) at in
        let at_is = ap (λ (x : Due Stage). x.at) is in
        omega arith);
    calls = calls;
  }

  pub coming_answered : (is : Called) → c ≡ is → kind ≡ kind_after c.how →
      next ≡ turn_by u.storm.until c.ends r kind →
      shared_of new ≡ with_call u.storm c s → new.calls ≡ old.calls + cond (is_call what) 1 0 →
      Tells old new r (moment_at t what (shared_of new)) → t ≤ c.ends →
      DriverStands u.plan (slot_of new r) h →
      last_moment h ≤ t → HasAnswered (coming u.storm s t h what is) t r old new next
  coming_answered is same kind_is next_is shared calls told later stands order =
      subst (λ x. HasAnswered (coming u.storm s t h what x) t r old new next) same
      (coming_so kind_is next_is shared calls told later stands order)

-- ---- a request that is denied before its first call

pub denied_answered : (old new : Course) (t r : ℕ) (u : Client) (s : Shared) → shared_of new ≡ s →
    new.calls ≡ old.calls → Tells old new r (record { at = t; what = happening.Refused; busy = s.busy }) →
    HasAnswered (arriving u.storm s t false) t r old new None
denied_answered old new t r u s shared calls told = record {
  next_is = refl;
  shared_is = shared;
  told = told;
  drives = λ d at. absurd (not_none d at);
  later = λ d at. absurd (not_none d at);
  calls = omega arith;
}

-- what asked the limit was admitted, or was not
module _ (old new : Course) (t r : ℕ) (u : Client) (limit : LimitState) (next : Option Turn) where
  -- how it is answered, where it was or was not
  abbrev Arrives : Bool → LimitState → Type 0
  Arrives admitted l = HasAnswered
      (arriving u.storm (with_request u.storm t (record (shared_of old) { limit = l })) t admitted) t r old new next

  arrived : (admitted : Bool) → (admitted, limit) ≡ limits.admitting u.storm.draws t r (shared_of old).limit →
      Arrives admitted limit → HasAnswered (answer_to u old r t begins) t r old new next
  arrived admitted asked h = subst (λ (a : Bool × LimitState). Arrives a.0 a.1) asked h

  pub arrived_so : (admitted : Bool) → admitted ≡ true →
      (admitted, limit) ≡ limits.admitting u.storm.draws t r (shared_of old).limit → Arrives true limit →
      HasAnswered (answer_to u old r t begins) t r old new next
  arrived_so true is asked h = arrived true asked h
  arrived_so false is asked h = absurd (false≢true is)

  pub denied_so : (admitted : Bool) → admitted ≡ false →
      (admitted, limit) ≡ limits.admitting u.storm.draws t r (shared_of old).limit → Arrives false limit →
      HasAnswered (answer_to u old r t begins) t r old new next
  denied_so true is asked h = absurd (false≢true (sym is))
  denied_so false is asked h = arrived false asked h

-- ---- a call that succeeds

pub won_answered : (old new : Course) (t r : ℕ) (u : Client) → IsReady old t r → u ≡ client_of old r →
    (began : ℕ) → began ≡ comes_at old.arrivals.now old.storm r →
    (limit : LimitState) → limit ≡ limits.succeeding u.storm.draws t r (shared_of old).limit →
    shared_of new ≡ record (shared_of old) { limit = limit } → new.calls ≡ old.calls →
    Tells old new r (record { at = t; what = happening.Won began; busy = old.busy }) →
    HasAnswered (answer_to u old r t succeeds) t r old new None
won_answered old new t r u ready of_r began began_is limit limit_is shared calls told =
    let same = ap (λ p. comes_at old.arrivals.now p r) (meets old r u t of_r ready) in
    let at : began ≡ comes_at old.arrivals.now u.storm r = began_is ∙ sym same in
    record {
      next_is = refl;
      shared_is = shared ∙ ap (λ l. let after : Shared = record (shared_of old) { limit = l } in after) limit_is;
      told = subst (λ b. Tells old new r (record { at = t; what = happening.Won b; busy = old.busy })) at told;
      drives = λ d at. absurd (not_none d at);
      later = λ d at. absurd (not_none d at);
      calls = omega arith;
    }

-- ---- a call that fails

-- what a course gives where a call failed: where a retry is due, its request's driver stands for that
pub record Gives (old new : Course) (t r : ℕ) (u : Client) (failure : Failure) (h : List Event) (s : Shared)
    (limit : LimitState)
    (n : Next) : Type 0 where
  pub arrivals : new.arrivals.now ≡ s.arrivals
  pub busy : new.busy ≡ s.busy
  pub begun : new.calls ≡ s.calls
  pub words : words_of new.words ≡ s.words
  pub drawn : new.drawn ≡ n.drawn
  pub limit_is : state_of new.limit ≡ ending_by u.storm n.then r limit
  pub calls : new.calls ≡ old.calls
  pub told : Tells old new r (record { at = t; what = happening.Failed failure n.then; busy = s.busy })
  pub stands : (turn : Turn) → n.next ≡ Some turn → DriverStands u.plan (slot_of new r) h
  pub order : last_moment h ≤ t

module _ (old new : Course) (t r : ℕ) (u : Client) (of_r : u ≡ client_of old r) (failure : Failure)
    (h : List Event) where
  -- what they share after what follows
  abbrev after : Shared → LimitState → Next → Shared
  after s limit n = record s { drawn = n.drawn; limit = ending_by u.storm n.then r limit }

  shared_given : (s : Shared) (limit : LimitState) (n : Next) → Gives old new t r u failure h s limit n →
      shared_of new ≡ after s limit n
  shared_given s limit n g =
      let arrivals = g.arrivals in
      let busy = g.busy in
      let begun = g.begun in
      let words = g.words in
      let drawn = g.drawn in
      let stands = g.limit_is in
      λ i. record {
        arrivals = arrivals i;
        busy = busy i;
        calls = begun i;
        words = words i;
        drawn = drawn i;
        limit =
            stands i;
      }

  drawn_answered : (s : Shared) (limit : LimitState) (start : ℕ) (granted : Bool) (drawn : Drawn) → t ≤ start →
      (n : Next) →
      n ≡ next_drawn u.storm r start (granted, drawn) → Gives old new t r u failure h s limit n →
      HasAnswered (drawing u.storm (record s { drawn = drawn; limit = limit }) r t failure h start granted) t r old
      new n.next
  drawn_answered s limit start true drawn later n is g = record {
    next_is = ap (λ (x : Next). x.next) is ∙ by_turn u.storm.until start r (retries h) (nat_le start u.storm.until);
    shared_is = shared_given s limit n g ∙ ap (after s limit) is;
    told = subst (λ (x : Next). Tells old new r
        (record { at = t; what = happening.Failed failure x.then; busy = s.busy })) is g.told;
    drives = λ d at.
        (let same = by_is u.storm.until start (retries h) d (nat_le start u.storm.until) at in
        let order = g.order in
        let due = ap (λ (x : Next). x.next) is
        ∙ (by_turn u.storm.until start r (retries h) (nat_le start u.storm.until) ∙ ap (turn_if r) at) in
        let both : Drives u.plan (slot_of new r) start (retries h) = (g.stands (turn_for r d) due, omega arith) in
        subst (λ (v : Client). Drives v.plan (slot_of new r) d.at d.what) of_r
        (subst (λ (x : Due Stage). Drives u.plan (slot_of new r) x.at x.what) same both));
    later = λ d at.
        (let same = by_is u.storm.until start (retries h) d (nat_le start u.storm.until) at in
        let at_is = ap (λ (x : Due Stage). x.at) same in
        omega arith);
    calls = (let calls = g.calls in omega arith);
  }
  drawn_answered s limit start false drawn later n is g = record {
    next_is = ap (λ (x : Next). x.next) is;
    shared_is = shared_given s limit n g ∙ ap (after s limit) is;
    told = subst (λ (x : Next). Tells old new r
        (record { at = t; what = happening.Failed failure x.then; busy = s.busy })) is g.told;
    drives = λ d at. absurd (not_none d at);
    later = λ d at. absurd (not_none d at);
    calls = (let calls = g.calls in omega arith);
  }

  on_answered : (s : Shared) (limit : LimitState) (granted : Bool) (start : Option ℕ) →
      IfSome start (λ x. t ≤ x) → (n : Next) →
      (granted, limit) ≡ asking u.storm failure t r start s.limit →
      n ≡ next_at u.storm granted s.drawn t r start →
      Gives old new t r u failure h s limit n →
      HasAnswered (going_on u.storm s r t failure h start) t r old new n.next
  on_answered s limit granted None later n asked is g = record {
    next_is = ap (λ (x : Next). x.next) is;
    shared_is = shared_given s limit n g
        ∙ (ap (after s limit) is ∙ ap (λ l. after s l (next_at u.storm granted s.drawn t r None))
        (ap (λ (a : Bool × LimitState). a.1) asked));
    told = subst (λ (x : Next). Tells old new r
        (record { at = t; what = happening.Failed failure x.then; busy = s.busy })) is g.told;
    drives = λ d at. absurd (not_none d at);
    later = λ d at. absurd (not_none d at);
    calls = (let calls = g.calls in omega arith);
  }
  on_answered s limit granted (Some start) later n asked is g =
      let drawn = draw_at u.storm.draws granted t s.drawn in
      let P : Bool × LimitState → Type 0 = λ a. HasAnswered (drawing u.storm
      (record s { drawn = (draw_at u.storm.draws a.0 t s.drawn).1; limit = a.1 }) r t failure h start
      (draw_at u.storm.draws a.0 t s.drawn).0) t r old new n.next in
      subst P asked (drawn_answered s limit start drawn.0 drawn.1 later n is g)

pub failing_answered : (old new : Course) (t r : ℕ) (u : Client) (of_r : u ≡ client_of old r) (failure : Failure)
    (before : List Event) (words : List ℕ)
    (start : Option ℕ) (told limit : LimitState) (granted : Bool) (n : Next) →
    (words, words_of new.words) ≡ next_four (words_of old.words) →
    start ≡ start_of (answer u.plan (with_failure before t words (input_of failure))).decision →
    IfSome start (λ x. t ≤ x) →
    told ≡ limits.failing u.storm.draws t r (shared_of old).limit →
    (granted, limit) ≡ asking u.storm failure t r start told →
    n ≡ next_at u.storm granted old.drawn t r start →
    Gives old new t r u failure (with_failure before t words (input_of failure))
    (record (shared_of old) { words = words_of new.words; limit = told }) limit n →
    HasAnswered (answer_to u old r t (fails failure before)) t r old new n.next
failing_answered old new t r u of_r failure before words start
    told limit granted n drawn planned later failed asked is g =
    let s : Shared = shared_of old in
    let P : List ℕ × Stream → LimitState → Type 0 =
    λ w l. HasAnswered (going_on u.storm (record s { words = w.1; limit = l }) r t failure
    (with_failure before t w.0 (input_of failure))
    (start_of (answer u.plan (with_failure before t w.0 (input_of failure))).decision)) t r old new n.next in
    let here = on_answered old new t r u of_r failure (with_failure before t words (input_of failure))
    (record s { words = words_of new.words; limit = told }) limit granted start later n asked is g in
    let there : P (words, words_of new.words) told =
    subst (λ o. HasAnswered (going_on u.storm (record s { words = words_of new.words; limit = told }) r t failure
    (with_failure before t words (input_of failure)) o) t r old new n.next) planned here in
    subst (λ w. P w (limits.failing u.storm.draws t r s.limit)) drawn
    (subst (λ l. P (words, words_of new.words) l) failed there)

pub last_given : (before : List Event) (t : ℕ) (words : List ℕ) (input : ℕ) →
    last_moment (with_failure before t words input) ≡ t
last_given before t words input = rw last_moment-push refl
