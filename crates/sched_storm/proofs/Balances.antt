-- What the events of a storm balance: calls and their ends, tickets and retries, requests and their ends.
use Rattle.std.proofs.Common.{◌≡◌, ℕ, ◌+◌, ◌≤◌, Bool, true, false, cond, List, [], ◌∷◌, Option, Some}
use Rattle.std.proofs.Common.{None, ◌++◌, if◌then◌else◌, refl, sym, ap, arith}
use Rattle.std.specs.Prelude.{◌==◌, nat_le, nat_lt, count_by, sum_by}
use Rattle.std.proofs.lemmas.List.Sums.{sum_by-cons}
use Rattle.std.proofs.lemmas.Bool.{false≢true, le-leb, le-ltb, leb-true}
use Rattle.sched_time.specs.Decision.{start_of}
use Rattle.sched_plan.specs.Schedule.{Schedule}
use Rattle.sched_plan.specs.Answer.{answer}
use Rattle.sched_plan.specs.declared.history.Event.{Event as Failed_event}
use Rattle.sched_task.specs.Words.{next_four}
use Rattle.sched_storm_trace.specs.Trace.{Due, Event, Answer, AreAnswered, IsBeginning, told_by}
use Rattle.sched_storm_trace.proofs.Sums.{balance, at_most, sum_none, told_sum, told_sum_ge, told_sum_le}
use Rattle.sched_storm_report.specs.Moments.{is_request, is_retry, is_call, is_granted, latest}
use Rattle.sched_storm_report.specs.Laws.{is_turned_away, turned_away}
use Rattle.sched_storm_report.specs.Peer.{none_busy}
use Rattle.sched_storm_report.specs.declared.moments.Failure.{Failure}
use Rattle.sched_storm_report.specs.declared.moments.Then.{Then}
use Rattle.sched_storm_report.specs.declared.moments.Then.TheVariants.{Lost, Denied, Waits}
use Rattle.sched_storm_report.specs.declared.moments.Happening.{Happening}
use Rattle.sched_storm_report.specs.declared.moments.Happening.TheVariants as happening
use Rattle.sched_storm_report.specs.declared.moments.Moment.{Moment}
use Rattle.sched_storm_limit.specs.Limits as limits
use Rattle.sched_storm_limit.specs.Limits.{LimitState}
use Rattle.sched_storm_limit.specs.Ranges.{has_draws, is_limited}
use Rattle.sched_storm_limit.specs.declared.draws.Draws.{Draws}
use Rattle.sched_storm_limit.specs.declared.draws.Draws.TheVariants.{Nothing, Budget, Quota, Limited}
use Rattle.sched_storm.specs.Populations.{population_of, draws_of, storm_of}
use Rattle.sched_storm.specs.Arrivals.{all_requests, comes_at}
use Rattle.sched_storm.specs.Calls.{called}
use Rattle.sched_storm.specs.Tickets.{draw_at}
use Rattle.sched_storm.specs.Drivers.{input_of, with_failure}
use Rattle.sched_storm.specs.Plays.{Stage, begins, retries, succeeds, fails, Shared, start_at, if_by, first, ending}
use Rattle.sched_storm.specs.Plays.{coming, ended, is_late, drawing, going_on, failing, with_request, arriving}
use Rattle.sched_storm.specs.Plays.{playing, played}
use Rattle.sched_storm.specs.Reported.{told_on, reported}
use Rattle.sched_storm.proofs.Played.{due_next}
use Rattle.sched_storm.specs.declared.parameters.Parameters.{Parameters}
use Rattle.sched_storm.specs.declared.calls.CallEnd.{CallEnd}
use Rattle.sched_storm.specs.declared.calls.CallEnd.TheVariants.{Succeeded, Failed}
use Rattle.sched_storm.specs.declared.calls.Called.{Called}

-- What holds of each answer to a call that fails holds of that answer: the request is lost or denied, or a retry is
-- due.
module _ (P : Answer Stage Shared Moment → Type 0) (p : Parameters) (r t : ℕ) (failure : Failure) where
  on_failure : (lost : (s : Shared) → P (ended p s r t failure Lost))
      (denied : (s : Shared) → P (ended p s r t failure Denied))
      (waits : (s : Shared) (h : List Failed_event) (start : ℕ) → P (drawing p s r t failure h start true))
      (s : Shared) (h : List Failed_event) (start : Option ℕ) → P (going_on p s r t failure h start)
  on_failure lost denied waits s h None = lost s
  on_failure lost denied waits s h (Some start) =
      let asked = limits.drawing p.draws (is_late failure) t r s.limit in
      let drawn = draw_at p.draws asked.0 t s.drawn in
      let after : Shared = record s { drawn = drawn.1; limit = asked.1 } in
      elim drawn.0 as (λ b. P (drawing p after r t failure h start b)) [
        | true ↦ waits after h start
        | false ↦ denied after
      ]

  pub by_failure : (lost : (s : Shared) → P (ended p s r t failure Lost))
      (denied : (s : Shared) → P (ended p s r t failure Denied))
      (waits : (s : Shared) (h : List Failed_event) (start : ℕ) → P (drawing p s r t failure h start true))
      (plan : Schedule) (s : Shared) (before : List Failed_event) → P (failing p plan s r t failure before)
  by_failure lost denied waits plan s before =
      let words = next_four s.words in
      let h = with_failure before t words.0 (input_of failure) in
      on_failure lost denied waits (record s { words = words.1; limit = limits.failing p.draws t r s.limit }) h
      (start_of (answer plan h).decision)

-- What holds of each answer to a request that comes holds of that answer: its first call comes to the peer, or it is
-- denied.
module _ (P : Answer Stage Shared Moment → Type 0) (p : Parameters) (r t : ℕ) where
  on_arrival : (comes : (s : Shared) (c : Called) → P (coming p s t [] happening.Request c))
      (denied : (s : Shared) → P (arriving p s t false)) (s : Shared) (b : Bool) → P (arriving p s t b)
  on_arrival comes denied s true = comes s (called p s.calls s.busy t)
  on_arrival comes denied s false = denied s

  pub by_arrival : (comes : (s : Shared) (c : Called) → P (coming p s t [] happening.Request c))
      (denied : (s : Shared) → P (arriving p s t false)) (plan : Schedule) (s : Shared) →
      P (playing p plan s r t begins)
  by_arrival comes denied plan s =
      let asked = limits.admitting p.draws t r s.limit in
      on_arrival comes denied (with_request p t (record s { limit = asked.1 })) asked.0

-- a weight of what is due of a request
abbrev weighed : (Stage → ℕ) → Option (Due Stage) → ℕ
weighed w None = 0
weighed w (Some d) = w d.what

-- where something is played, it weighs no more than by itself
weight_if : (w : Stage → ℕ) (until t : ℕ) (what : Stage) (most : ℕ) → w what ≤ most →
    weighed w (if_by until t what) ≤ most
weight_if w until t what most h =
    elim (nat_le t until) as (λ b. weighed w (cond b (Some (record { at = t; what = what })) None) ≤ most) [
      | true ↦ h
      | false ↦ omega arith
    ]

-- the end of a call
weight_call : (w : Stage → ℕ) (most : ℕ) → w succeeds ≤ most → ((f : Failure) (h : List Failed_event) →
    w (fails f h) ≤ most) →
    (until t : ℕ) (how : CallEnd) (h : List Failed_event) → weighed w (if_by until t (ending how h)) ≤ most
weight_call w most won lost until t Succeeded h = weight_if w until t succeeds most won
weight_call w most won lost until t (Failed f) h = weight_if w until t (fails f h) most (lost f h)

-- what follows a call that fails
weight_failure : (w : Stage → ℕ) (most : ℕ) → ((h : List Failed_event) → w (retries h) ≤ most) →
    (p : Parameters) (plan : Schedule) (s : Shared) (r t : ℕ) (f : Failure) (before : List Failed_event) →
    weighed w (failing p plan s r t f before).next ≤ most
weight_failure w most again p plan s r t f before =
    by_failure (λ (a : Answer Stage Shared Moment). weighed w a.next ≤ most) p r t f (λ s. omega arith)
    (λ s. omega arith) (λ s h start. weight_if w p.until start (retries h) most (again h)) plan s before

-- what follows a request that comes
weight_arrival : (w : Stage → ℕ) (most : ℕ) → w succeeds ≤ most → ((f : Failure) (h : List Failed_event) →
    w (fails f h) ≤ most) →
    (p : Parameters) (plan : Schedule) (s : Shared) (r t : ℕ) → weighed w (playing p plan s r t begins).next ≤ most
weight_arrival w most won lost p plan s r t =
    by_arrival (λ (a : Answer Stage Shared Moment). weighed w a.next ≤ most) p r t
    (λ s c. weight_call w most won lost p.until c.ends c.how []) (λ s. omega arith) plan s

-- an event of a request where something was due of it
abbrev event : ℕ → ℕ → Stage → Option (Due Stage) → Event Stage
event r t what next = record { request = r; due = record { at = t; what = what }; next = next }

-- ---- calls, and how they end

abbrev is_end : Stage → ℕ
is_end begins = 0
is_end (retries h) = 0
is_end succeeds = 1
is_end (fails f h) = 1

-- a call that begins comes to one end at most
ends_step : (p : Parameters) (plan : Schedule) (s : Shared) (r t : ℕ) (what : Stage) →
    weighed is_end (playing p plan s r t what).next ≤ cond (is_call (playing p plan s r t what).told.what) 1 0
ends_step p plan s r t begins =
    by_arrival (λ (a : Answer Stage Shared Moment). weighed is_end a.next ≤ cond (is_call a.told.what) 1 0) p r t
    (λ s c. weight_call is_end 1 (omega arith) (λ f h. omega arith) p.until c.ends c.how []) (λ s. omega arith) plan s
ends_step p plan s r t (retries h) =
    let c = called p s.calls s.busy t in weight_call is_end 1 (omega arith) (λ f h. omega arith) p.until c.ends c.how h
ends_step p plan s r t succeeds = omega arith
ends_step p plan s r t (fails f h) =
    by_failure (λ (a : Answer Stage Shared Moment). weighed is_end a.next ≤ cond (is_call a.told.what) 1 0) p r t f
    (λ s. omega arith) (λ s. omega arith) (λ s h' start. weight_if is_end p.until start (retries h') 0
    (omega arith)) plan s h

-- ---- what comes at first

first_late : (ms : List ℕ) (p : Parameters) (r : ℕ) → all_requests ms p ≤ r → first ms p r ≡ None
first_late ms p r late = ap (λ b. cond b (if_by p.until (comes_at ms p r) begins) None) (le-ltb r
    (all_requests ms p) late)

first_weight : (w : Stage → ℕ) (most : ℕ) → w begins ≤ most → (ms : List ℕ) (p : Parameters) (r : ℕ) →
    weighed w (first ms p r) ≤ most
first_weight w most h ms p r = elim (nat_lt r (all_requests ms p)) as (λ b. weighed w (cond b (if_by p.until
    (comes_at ms p r) begins) None) ≤ most) [
      | true ↦ weight_if w p.until (comes_at ms p r) begins most h
      | false ↦ omega arith
    ]

-- what comes at first lies before the end
abbrev lateness : ℕ → Option (Due Stage) → ℕ
lateness until None = 0
lateness until (Some d) = cond (nat_le d.at until) 0 1

in_time : (until : ℕ) (o : Option (Due Stage)) → ((d : Due Stage) → o ≡ Some d → d.at ≤ until) → lateness until o ≡ 0
in_time until None h = refl
in_time until (Some d) h = ap (λ b. cond b 0 1) (le-leb d.at until (h d refl))

in_time_if : (until t : ℕ) (what : Stage) → lateness until (if_by until t what) ≡ 0
in_time_if until t what =
    elim (nat_le t until) as (λ b. nat_le t until ≡ b →
    lateness until (cond b (Some (record { at = t; what = what })) None) ≡ 0) [
      | true ↦ λ e. ap (λ b. cond b 0 1) e
      | false ↦ λ e. refl
    ] refl

first_in_time : (ms : List ℕ) (p : Parameters) (r : ℕ) → lateness p.until (first ms p r) ≡ 0
first_in_time ms p r = elim (nat_lt r (all_requests ms p)) as (λ b. lateness p.until (cond b (if_by p.until
    (comes_at ms p r) begins) None) ≡ 0) [
      | true ↦ in_time_if p.until (comes_at ms p r) begins
      | false ↦ refl
    ]

-- ---- what is told of an event

-- What a test says of what is told is what a count says of what was due.
module _ (f : Stage → ℕ) (test : Happening → Bool) (comes : f begins ≡ cond (test happening.Request) 1 0)
    (denied : f begins ≡ cond (test happening.Refused) 1 0)
    (again : (h : List Failed_event) → f (retries h) ≡ cond (test happening.Retry) 1 0)
    (won : (began : ℕ) → f succeeds ≡ cond (test (happening.Won began)) 1 0)
    (failed : (fault : Failure) (h : List Failed_event) (next : Then) →
    f (fails fault h) ≡ cond (test (happening.Failed fault next)) 1 0) where
  same_told : (p : Parameters) (plan : Schedule) (s : Shared) (r t : ℕ) (what : Stage) →
      f what ≡ cond (test (playing p plan s r t what).told.what) 1 0
  same_told p plan s r t begins =
      by_arrival (λ (a : Answer Stage Shared Moment). f begins ≡ cond (test a.told.what) 1 0) p r t
      (λ s c. comes) (λ s. denied) plan s
  same_told p plan s r t (retries h) = again h
  same_told p plan s r t succeeds = won (comes_at s.arrivals p r)
  same_told p plan s r t (fails fault h) =
      by_failure (λ (a : Answer Stage Shared Moment). f (fails fault h) ≡ cond (test a.told.what) 1 0) p r t fault
      (λ s. failed fault h Lost) (λ s. failed fault h Denied) (λ s h' start.
      failed fault h (Waits (has_draws p.draws))) plan s h

  count_told : (p : Parameters) (plans : ℕ → Schedule) (s : Shared) (es : List (Event Stage)) (last : Shared) →
      AreAnswered (played p plans) s es last →
      sum_by (λ (e : Event Stage). f e.due.what) es ≡ count_by (λ (m : Moment). test m.what) (told_by
      (played p plans) s es)
  count_told p plans s es last answered =
      told_sum (played p plans) (λ e. f e.due.what) (λ m. cond (test m.what) 1 0)
      (λ s r d. same_told (storm_of p r) (plans (population_of p r)) s r d.at d.what) s es last answered

-- a retry is due
abbrev is_again : Stage → ℕ
is_again begins = 0
is_again (retries h) = 1
is_again succeeds = 0
is_again (fails f h) = 0

-- where it is planned, it was granted
granted_step : (p : Parameters) (plan : Schedule) (s : Shared) (r t : ℕ) (what : Stage) →
    weighed is_again (playing p plan s r t what).next ≤ cond (is_granted (playing p plan s r t what).told.what) 1 0
granted_step p plan s r t begins =
    by_arrival (λ (a : Answer Stage Shared Moment). weighed is_again a.next ≤ cond (is_granted a.told.what) 1 0) p r t
    (λ s c. weight_call is_again 0 (omega arith) (λ f h. omega arith) p.until c.ends c.how []) (λ s. omega arith) plan s
granted_step p plan s r t (retries h) =
    let c = called p s.calls s.busy t in
    weight_call is_again 0 (omega arith) (λ f h. omega arith) p.until c.ends c.how h
granted_step p plan s r t succeeds = omega arith
granted_step p plan s r t (fails fault h) =
    by_failure (λ (a : Answer Stage Shared Moment). weighed is_again a.next ≤ cond
    (is_granted a.told.what) 1 0) p r t fault
    (λ s. omega arith) (λ s. omega arith) (λ s h' start. weight_if is_again p.until start (retries h') 1
    (omega arith)) plan s h

-- ---- requests, and how they end

-- a request comes
abbrev comes : Stage → ℕ
comes begins = 1
comes (retries h) = 0
comes succeeds = 0
comes (fails f h) = 0

-- a request came, and has not ended
abbrev goes_on : Stage → ℕ
goes_on begins = 0
goes_on (retries h) = 1
goes_on succeeds = 1
goes_on (fails f h) = 1

goes_on-le : (what : Stage) → goes_on what ≤ 1
goes_on-le begins = omega arith
goes_on-le (retries h) = omega arith
goes_on-le succeeds = omega arith
goes_on-le (fails f h) = omega arith

abbrev is_none : Option (Due Stage) → ℕ
is_none None = 1
is_none (Some d) = 0

going_or_none : (o : Option (Due Stage)) → weighed goes_on o + is_none o ≤ 1
going_or_none None = omega arith
going_or_none (Some d) = let k = goes_on-le d.what in omega arith

-- a request comes or a call ends, and nothing is due of the request any more
abbrev is_over : Stage → Option (Due Stage) → ℕ
is_over begins o = is_none o
is_over (retries h) o = 0
is_over succeeds o = is_none o
is_over (fails f h) o = is_none o

over_step : (p : Parameters) (plan : Schedule) (s : Shared) (r t : ℕ) (what : Stage) →
    let next = (playing p plan s r t what).next in
    weighed goes_on next + is_over what next ≤ goes_on what + comes what
over_step p plan s r t begins = let k = going_or_none (playing p plan s r t begins).next in omega arith
over_step p plan s r t (retries h) = let c = called p s.calls s.busy t in
    let k = weight_call goes_on 1 (omega arith) (λ f h. omega arith) p.until c.ends c.how h in omega arith
over_step p plan s r t succeeds = omega arith
over_step p plan s r t (fails f h) = let k = going_or_none (playing p plan s r t (fails f h)).next in omega arith

-- what is told of a request's end
abbrev pub ends_request : Happening → Bool
ends_request (happening.Won began) = true
ends_request (happening.Failed fault Lost) = true
ends_request (happening.Failed fault Denied) = true
ends_request happening.Refused = true
ends_request _ = false

over_told : (p : Parameters) (plan : Schedule) (s : Shared) (r t : ℕ) (what : Stage) →
    cond (ends_request (playing p plan s r t what).told.what) 1 0 ≤ is_over what (playing p plan s r t what).next
over_told p plan s r t begins =
    by_arrival (λ (a : Answer Stage Shared Moment). cond (ends_request a.told.what) 1 0 ≤ is_none a.next) p r t
    (λ s c. omega arith) (λ s. omega arith) plan s
over_told p plan s r t (retries h) = omega arith
over_told p plan s r t succeeds = omega arith
over_told p plan s r t (fails fault h) =
    by_failure (λ (a : Answer Stage Shared Moment). cond (ends_request a.told.what) 1 0 ≤ is_none a.next) p r t fault
    (λ s. omega arith) (λ s. omega arith) (λ s h' start. omega arith) plan s h

none_arrival : (p : Parameters) (s : Shared) (t : ℕ) (b : Bool) → b ≡ true →
    cond (is_turned_away (arriving p s t b).told.what) 1 0 ≤ 0
none_arrival p s t true is = omega arith
none_arrival p s t false is = absurd (false≢true is)

all_admitted : (draws : Draws) → is_limited draws ≡ false → (t r : ℕ) (s : LimitState) →
    (limits.admitting draws t r s).0 ≡ true
all_admitted Nothing none t r s = refl
all_admitted (Budget limit) none t r s = refl
all_admitted (Quota terms) none t r s = refl
all_admitted (Limited limit) none t r s = absurd (false≢true (sym none))

none_step : (p : Parameters) (plan : Schedule) → is_limited p.draws ≡ false → (s : Shared) (r t : ℕ) (what : Stage) →
    cond (is_turned_away (playing p plan s r t what).told.what) 1 0 ≤ 0
none_step p plan none s r t begins =
    let asked = limits.admitting p.draws t r s.limit in
    none_arrival p (with_request p t (record s { limit = asked.1 })) t asked.0 (all_admitted p.draws none t r s.limit)
none_step p plan none s r t (retries h) = omega arith
none_step p plan none s r t succeeds = omega arith
none_step p plan none s r t (fails fault h) =
    by_failure (λ (a : Answer Stage Shared Moment). cond (is_turned_away a.told.what) 1 0 ≤ 0) p r t fault
    (λ s. omega arith) (λ s. omega arith) (λ s h' start. omega arith) plan s h

comes_step : (p : Parameters) (plan : Schedule) (s : Shared) (r t : ℕ) (what : Stage) →
    weighed comes (playing p plan s r t what).next + comes what ≤ comes what
comes_step p plan s r t begins =
    let k = weight_arrival comes 0 (omega arith) (λ f h. omega arith) p plan s r t in omega arith
comes_step p plan s r t (retries h) = let c = called p s.calls s.busy t in
    let k = weight_call comes 0 (omega arith) (λ f h. omega arith) p.until c.ends c.how h in omega arith
comes_step p plan s r t succeeds = omega arith
comes_step p plan s r t (fails f h) = let k = weight_failure comes 0 (λ h. omega arith) p plan s r t f h in omega arith

-- what is told of a call's end
abbrev pub ends_call : Happening → Bool
ends_call (happening.Won began) = true
ends_call (happening.Failed fault next) = true
ends_call _ = false

-- ---- until the end

abbrev pub AreUntil : ℕ → List (Event Stage) → Type 0
AreUntil until [] = Unit {0}
AreUntil until (e ∷ es) = (e.due.at ≤ until) × AreUntil until es

not_late : (b : Bool) → cond {A = ℕ} b 0 1 ≤ 0 → b ≡ true
not_late true h = refl
not_late false h = absurd (omega arith)

are_until : (until : ℕ) (es : List (Event Stage)) → sum_by (λ (e : Event Stage). cond
    (nat_le e.due.at until) 0 1) es ≤ 0 →
    AreUntil until es
are_until until [] h = tt
are_until until (e ∷ es) h =
    let one = sum_by-cons (λ (e : Event Stage). cond (nat_le e.due.at until) 0 1) e es in
    (leb-true e.due.at until (not_late (nat_le e.due.at until) (omega arith)), are_until until es (omega arith))

told_at : (p : Parameters) (plan : Schedule) (s : Shared) (r t : ℕ) (what : Stage) →
    (playing p plan s r t what).told.at ≡ t
told_at p plan s r t begins =
    by_arrival (λ (a : Answer Stage Shared Moment). a.told.at ≡ t) p r t (λ s c. refl) (λ s. refl) plan s
told_at p plan s r t (retries h) = refl
told_at p plan s r t succeeds = refl
told_at p plan s r t (fails fault h) =
    by_failure (λ (a : Answer Stage Shared Moment). a.told.at
    ≡ t) p r t fault (λ s. refl) (λ s. refl) (λ s h' start. refl) plan s h

-- ---- the last that is told, of all requests or of those of one population

latest_on : (p : Parameters) (of : Option ℕ) (r : ℕ) (m : Moment) (ms : List Moment) (at : ℕ) → at ≤ p.until →
    m.at ≤ p.until → ((n : ℕ) → n ≤ p.until → latest n ms ≤ p.until) →
    latest at (told_on p of r m ++ ms) ≤ p.until
latest_on p None r m ms at early here rest = rest m.at here
latest_on p (Some k) r m ms at early here rest = elim (population_of p r == k) as (λ b.
    latest at ((if b then record m { busy = none_busy } ∷ [] else []) ++ ms) ≤ p.until) [
      | true ↦ rest m.at here
      | false ↦ rest at early
    ]

latest_by : (p : Parameters) (plans : ℕ → Schedule) (of : Option ℕ) (s : Shared) (es : List (Event Stage)) (at : ℕ) →
    at ≤ p.until → AreUntil p.until es →
    latest at (reported p plans of s es) ≤ p.until
latest_by p plans of s [] at early by = early
latest_by p plans of s (e ∷ es) at early by =
    let a = played p plans s e.request e.due in
    let same = told_at (storm_of p e.request) (plans (population_of p e.request)) s e.request e.due.at e.due.what in
    let here = by.0 in
    latest_on p of e.request a.told (reported p plans of a.shared es) at early (omega arith)
    (λ n few. latest_by p plans of a.shared es n few by.1)

-- ---- all events of a storm

module _ (arrivals : List ℕ) (p : Parameters) (plans : ℕ → Schedule) (es : List (Event Stage)) (due : ℕ →
    Option (Due Stage))
    (last : Shared)
    (h : IsBeginning (played p plans) (first arrivals p) (start_at arrivals p) es due last) where
  abbrev ms : List Moment
  ms = told_by (played p plans) (start_at arrivals p) es

  requests_told : sum_by (λ (e : Event Stage). comes e.due.what) es ≡ count_by (λ (m : Moment). is_request m.what) ms
  requests_told = count_told comes is_request refl refl (λ h. refl) (λ began. refl) (λ f h next. refl) p plans
      (start_at arrivals p) es last h.answers

  retries_told : sum_by (λ (e : Event Stage). is_again e.due.what) es ≡ count_by (λ (m : Moment). is_retry m.what) ms
  retries_told = count_told is_again is_retry refl refl (λ h. refl) (λ began. refl) (λ f h next. refl) p plans
      (start_at arrivals p) es last h.answers

  ends_told : sum_by (λ (e : Event Stage). is_end e.due.what) es ≡ count_by (λ (m : Moment). ends_call m.what) ms
  ends_told = count_told is_end ends_call refl refl (λ h. refl) (λ began. refl) (λ f h next. refl) p plans
      (start_at arrivals p) es last h.answers

  -- where there is no limit no request is denied before its first call
  pub none_turned_away : ((k : ℕ) → is_limited (draws_of p k) ≡ false) → turned_away ms ≡ 0
  none_turned_away none =
      let few = told_sum_le (played p plans) (λ e. 0) (λ m. cond (is_turned_away m.what) 1 0)
      (λ s r d. none_step (storm_of p r) (plans (population_of p r)) (none (population_of p r)) s r d.at d.what)
      (start_at arrivals p) es last h.answers in
      let zero = sum_none es in
      omega arith

  -- each call ends once at most
  pub ends-le : count_by (λ (m : Moment). ends_call m.what) ms ≤ count_by (λ (m : Moment). is_call m.what) ms
  ends-le =
      let all = balance (played p plans) (weighed is_end) (λ e. is_end e.due.what) (λ e. weighed is_end e.next)
      (λ s r d. omega arith) (first arrivals p) (all_requests arrivals p)
      (λ r. let k = first_weight is_end 0 (omega arith) arrivals p r in
      omega arith) (first_late arrivals p) (start_at arrivals p) es due last h in
      let calls = told_sum_ge (played p plans) (λ e. weighed is_end e.next) (λ m. cond (is_call m.what) 1 0)
      (λ s r d. ends_step (storm_of p r) (plans (population_of p r)) s r d.at d.what)
      (start_at arrivals p) es last h.answers in
      let ends = ends_told in
      omega arith

  -- no retry begins that was not granted
  pub retries-le : count_by (λ (m : Moment). is_retry m.what) ms ≤ count_by (λ (m : Moment). is_granted m.what) ms
  retries-le =
      let all = balance (played p plans) (weighed is_again) (λ e. is_again e.due.what) (λ e. weighed is_again e.next)
      (λ s r d. omega arith) (first arrivals p) (all_requests arrivals p)
      (λ r. let k = first_weight is_again 0 (omega arith) arrivals p r in
      omega arith) (first_late arrivals p) (start_at arrivals p) es due last h in
      let granted = told_sum_ge (played p plans) (λ e. weighed is_again e.next) (λ m. cond (is_granted m.what) 1 0)
      (λ s r d. granted_step (storm_of p r) (plans (population_of p r)) s r d.at d.what)
      (start_at arrivals p) es last h.answers in
      let again = retries_told in
      omega arith

  -- each request ends once at most
  pub over-le : count_by (λ (m : Moment). ends_request m.what) ms ≤ count_by (λ (m : Moment). is_request m.what) ms
  over-le =
      let all = balance (played p plans) (weighed goes_on) (λ e. is_over e.due.what e.next) (λ e. comes e.due.what)
      (λ s r d. over_step (storm_of p r) (plans (population_of p r)) s r d.at d.what) (first arrivals p)
      (all_requests arrivals p)
      (λ r. let k = first_weight goes_on 0 (omega arith) arrivals p r in
      omega arith) (first_late arrivals p) (start_at arrivals p) es due last h in
      let over = told_sum_le (played p plans) (λ e. is_over e.due.what e.next) (λ m. cond (ends_request m.what) 1 0)
      (λ s r d. over_told (storm_of p r) (plans (population_of p r)) s r d.at d.what)
      (start_at arrivals p) es last h.answers in
      let requests = requests_told in
      omega arith

  -- no more come than there are
  pub requests-le : count_by (λ (m : Moment). is_request m.what) ms ≤ all_requests arrivals p
  requests-le =
      let all = at_most (played p plans) (weighed comes) (λ e. comes e.due.what)
      (λ s r d. comes_step (storm_of p r) (plans (population_of p r)) s r d.at d.what) (first arrivals p)
      (all_requests arrivals p) (λ r. first_weight comes 1 (omega arith) arrivals p r) (first_late arrivals p)
      (start_at arrivals p) es due last h in
      let requests = requests_told in
      omega arith

  -- no event is played after the end
  pub by_until : AreUntil p.until es
  by_until =
      let all = balance (played p plans) (lateness p.until) (λ e. cond (nat_le e.due.at p.until) 0 1) (λ e. 0)
      (λ s r d. let k = in_time p.until (played p plans s r d).next (λ d' e.
      (due_next (storm_of p r) (plans (population_of p r)) s r d.at d.what d' e).by) in omega arith)
      (first arrivals p) (all_requests arrivals p) (first_in_time arrivals p) (first_late arrivals p)
      (start_at arrivals p) es due last h in
      let none = sum_none es in
      are_until p.until es (omega arith)

  pub latest-le : (of : Option ℕ) → latest 0 (reported p plans of (start_at arrivals p) es) ≤ p.until
  latest-le of = latest_by p plans of (start_at arrivals p) es 0 (omega arith) by_until
