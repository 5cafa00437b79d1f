-- What becomes of a request where something is due of it: what is due next, and the tickets.
use Rattle.std.proofs.Common.{◌≡◌, ℕ, ◌+◌, ◌<◌, ◌≤◌, Bool, true, false, cond, List, [], Option, Some, None, refl}
use Rattle.std.proofs.Common.{ap, subst, arith, leb-true}
use Rattle.std.specs.Prelude.{nat_le}
use Rattle.sched_time.specs.Decision.{start_of}
use Rattle.sched_plan.specs.Schedule.{Schedule}
use Rattle.sched_plan.specs.Answer.{answer}
use Rattle.sched_plan.specs.declared.history.Event.{Event}
use Rattle.sched_task.specs.Words.{next_four}
use Rattle.sched_storm_trace.specs.Trace.{Due}
use Rattle.sched_storm_report.specs.Moments.{is_call}
use Rattle.sched_storm_limit.specs.Limits as limits
use Rattle.sched_storm_limit.specs.Ranges.{has_draws}
use Rattle.sched_storm_report.specs.declared.moments.Failure.{Failure}
use Rattle.sched_storm.specs.Calls.{called}
use Rattle.sched_storm.specs.Tickets.{asked_of, given_of, draw_at}
use Rattle.sched_storm.specs.Drivers.{input_of, with_failure}
use Rattle.sched_storm.specs.Plays.{Stage, begins, retries, succeeds, fails, Shared, if_by, ending, is_late, drawing}
use Rattle.sched_storm.specs.Plays.{going_on, with_request, arriving, playing}
use Rattle.sched_storm.specs.Turns.{kind_of, begins_call}
use Rattle.sched_storm.specs.Course.{IsPlacedAt, came}
use Rattle.sched_storm.specs.declared.parameters.Parameters.{Parameters}
use Rattle.sched_storm.specs.declared.calls.CallEnd.{CallEnd}
use Rattle.sched_storm.specs.declared.calls.CallEnd.TheVariants.{Succeeded, Failed}
use Rattle.sched_storm.proofs.Bounds.{counted_asked, counted_given, drawn_asked, drawn_given}

-- whether a call begins is what is told
arrival_told : (p : Parameters) (s : Shared) (t : ℕ) (b : Bool) → is_call (arriving p s t b).told.what ≡ b
arrival_told p s t true = refl
arrival_told p s t false = refl

call_drawn : (p : Parameters) (s : Shared) (r t : ℕ) (failure : Failure) (h : List Event) (start : ℕ) (b : Bool) →
    is_call (drawing p s r t failure h start b).told.what ≡ false
call_drawn p s r t failure h start true = refl
call_drawn p s r t failure h start false = refl

call_on : (p : Parameters) (s : Shared) (r t : ℕ) (failure : Failure) (h : List Event) (o : Option ℕ) →
    is_call (going_on p s r t failure h o).told.what ≡ false
call_on p s r t failure h None = refl
call_on p s r t failure h (Some start) =
    let asked = limits.drawing p.draws (is_late failure) t r s.limit in
    let drawn = draw_at p.draws asked.0 t s.drawn in
    call_drawn p (record s { drawn = drawn.1; limit = asked.1 }) r t failure h start drawn.0

pub call_told : (p : Parameters) (plan : Schedule) (s : Shared) (r t : ℕ) (what : Stage) →
    is_call (playing p plan s r t what).told.what ≡ begins_call p s r t (kind_of what)
call_told p plan s r t begins =
    let asked = limits.admitting p.draws t r s.limit in
    arrival_told p (with_request p t (record s { limit = asked.1 })) t asked.0
call_told p plan s r t (retries h) = refl
call_told p plan s r t succeeds = refl
call_told p plan s r t (fails failure before) =
    let words = next_four s.words in
    let h = with_failure before t words.0 (input_of failure) in
    call_on p (record s { words = words.1; limit = limits.failing p.draws t r s.limit }) r t failure h
    (start_of (answer plan h).decision)

-- ---- what is due next

if_by_is : (until t : ℕ) (what : Stage) (d : Due Stage) (b : Bool) → nat_le t until ≡ b →
    cond b (Some (record { at = t; what = what })) None ≡ Some d →
    (d.at ≤ until) × (what ≡ d.what)
if_by_is until t what d true s h =
    let same : record { at = t; what = what } ≡ d = some_same h in
    let by = leb-true t until s in
    let at : t ≡ d.at = ap (λ (x : Due Stage). x.at) same in
    (omega arith, ap (λ (x : Due Stage). x.what) same)
  where
    some_same : {X : Type 0} {a b : X} → Some a ≡ Some b → a ≡ b
    some_same h = cc
if_by_is until t what d false s h = absurd (none_some h)
  where
    none_some : {X : Type 0} {a : X} → None ≡ Some a → ⊥
    none_some h = cc

-- what is due after an event is played, and is none of a request's first call
pub record IsDueNext (until : ℕ) (d : Due Stage) : Type 0 where
  pub by : d.at ≤ until
  pub placed : (r requests : ℕ) → r < requests → IsPlacedAt (kind_of d.what) r requests

ends_later : (how : CallEnd) (h : List Event) (r requests : ℕ) → r < requests →
    IsPlacedAt (kind_of (ending how h)) r requests
ends_later Succeeded h r requests k = k
ends_later (Failed failure) h r requests k = k

due_if : (until t : ℕ) (what : Stage) (d : Due Stage) →
    ((r requests : ℕ) → r < requests → IsPlacedAt (kind_of what) r requests) →
    if_by until t what ≡ Some d → IsDueNext until d
due_if until t what d placed h =
    let both = if_by_is until t what d (nat_le t until) refl h in
    record {
      by = both.0;
      placed = λ r requests k. subst (λ w. IsPlacedAt (kind_of w) r requests) both.1 (placed r requests k);
    }

none_due : {X : Type 0} (until : ℕ) (d : Due Stage) → None ≡ Some d → X
none_due until d h = absurd (none_some h)
  where
    none_some : {X : Type 0} {a : X} → None ≡ Some a → ⊥
    none_some h = cc

due_drawn : (p : Parameters) (s : Shared) (r t : ℕ) (failure : Failure) (h : List Event) (start : ℕ) (d : Due Stage)
    (b : Bool) →
    (drawing p s r t failure h start b).next ≡ Some d → IsDueNext p.until d
due_drawn p s r t failure h start d true e = due_if p.until start (retries h) d (λ r requests k. k) e
due_drawn p s r t failure h start d false e = none_due p.until d e

due_on : (p : Parameters) (s : Shared) (r t : ℕ) (failure : Failure) (h : List Event) (o : Option ℕ) (d : Due Stage) →
    (going_on p s r t failure h o).next ≡ Some d → IsDueNext p.until d
due_on p s r t failure h None d e = none_due p.until d e
due_on p s r t failure h (Some start) d e =
    let asked = limits.drawing p.draws (is_late failure) t r s.limit in
    let drawn = draw_at p.draws asked.0 t s.drawn in
    due_drawn p (record s { drawn = drawn.1; limit = asked.1 }) r t failure h start d drawn.0 e

due_arriving : (p : Parameters) (s : Shared) (t : ℕ) (d : Due Stage) (b : Bool) →
    (arriving p s t b).next ≡ Some d → IsDueNext p.until d
due_arriving p s t d true e =
    let c = called p s.calls s.busy t in due_if p.until c.ends (ending c.how []) d (ends_later c.how []) e
due_arriving p s t d false e = none_due p.until d e

pub due_next : (p : Parameters) (plan : Schedule) (s : Shared) (r t : ℕ) (what : Stage) (d : Due Stage) →
    (playing p plan s r t what).next ≡ Some d → IsDueNext p.until d
due_next p plan s r t begins d e =
    let asked = limits.admitting p.draws t r s.limit in
    due_arriving p (with_request p t (record s { limit = asked.1 })) t d asked.0 e
due_next p plan s r t (retries h) d e =
    let c = called p s.calls s.busy t in due_if p.until c.ends (ending c.how h) d (ends_later c.how h) e
due_next p plan s r t succeeds d e = none_due p.until d e
due_next p plan s r t (fails failure before) d e =
    let words = next_four s.words in
    let h = with_failure before t words.0 (input_of failure) in
    due_on p (record s { words = words.1; limit = limits.failing p.draws t r s.limit }) r t failure h
    (start_of (answer plan h).decision) d e

-- ---- the tickets

drawn_drawing : (p : Parameters) (s : Shared) (r t : ℕ) (failure : Failure) (h : List Event) (start : ℕ) (b : Bool) →
    (drawing p s r t failure h start b).shared.drawn ≡ s.drawn
drawn_drawing p s r t failure h start true = refl
drawn_drawing p s r t failure h start false = refl

on_asked : (p : Parameters) (s : Shared) (r t : ℕ) (failure : Failure) (h : List Event) (o : Option ℕ) →
    asked_of (going_on p s r t failure h o).shared.drawn ≡ asked_of s.drawn
on_asked p s r t failure h None = refl
on_asked p s r t failure h (Some start) =
    let may = limits.drawing p.draws (is_late failure) t r s.limit in
    let drawn = draw_at p.draws may.0 t s.drawn in
    let same = ap asked_of
    (drawn_drawing p (record s { drawn = drawn.1; limit = may.1 }) r t failure h start drawn.0) in
    let asked = drawn_asked p.draws may.0 t s.drawn in
    omega arith

on_given : (p : Parameters) (s : Shared) (r t : ℕ) (failure : Failure) (h : List Event) (o : Option ℕ) →
    given_of (going_on p s r t failure h o).shared.drawn ≤ given_of s.drawn + 1
on_given p s r t failure h None = omega arith
on_given p s r t failure h (Some start) =
    let may = limits.drawing p.draws (is_late failure) t r s.limit in
    let drawn = draw_at p.draws may.0 t s.drawn in
    let same = ap given_of
    (drawn_drawing p (record s { drawn = drawn.1; limit = may.1 }) r t failure h start drawn.0) in
    let given = drawn_given p.draws may.0 t s.drawn in
    omega arith

drawn_arriving : (p : Parameters) (s : Shared) (t : ℕ) (b : Bool) → (arriving p s t b).shared.drawn ≡ s.drawn
drawn_arriving p s t true = refl
drawn_arriving p s t false = refl

one_at_most : (b : Bool) → cond {A = ℕ} b 1 0 ≤ 1
one_at_most true = omega arith
one_at_most false = omega arith

pub played_asked : (p : Parameters) (plan : Schedule) (s : Shared) (r t : ℕ) (what : Stage) →
    asked_of (playing p plan s r t what).shared.drawn ≤ asked_of s.drawn + came (kind_of what)
played_asked p plan s r t begins =
    let may = limits.admitting p.draws t r s.limit in
    let arrived = ap asked_of (drawn_arriving p (with_request p t (record s { limit = may.1 })) t may.0) in
    let counted = counted_asked p.draws t s.drawn in
    let one = one_at_most (has_draws p.draws) in
    omega arith
played_asked p plan s r t (retries h) = omega arith
played_asked p plan s r t succeeds = omega arith
played_asked p plan s r t (fails failure before) =
    let words = next_four s.words in
    let h = with_failure before t words.0 (input_of failure) in
    let same = on_asked p (record s { words = words.1; limit = limits.failing p.draws t r s.limit }) r t failure h
    (start_of (answer plan h).decision) in
    omega arith

pub played_given : (p : Parameters) (plan : Schedule) (s : Shared) (r t : ℕ) (what : Stage) →
    given_of (playing p plan s r t what).shared.drawn ≤ given_of s.drawn + 1
played_given p plan s r t begins =
    let may = limits.admitting p.draws t r s.limit in
    let arrived = ap given_of (drawn_arriving p (with_request p t (record s { limit = may.1 })) t may.0) in
    let same = counted_given p.draws t s.drawn in
    omega arith
played_given p plan s r t (retries h) = omega arith
played_given p plan s r t succeeds = omega arith
played_given p plan s r t (fails failure before) =
    let words = next_four s.words in
    let h = with_failure before t words.0 (input_of failure) in
    on_given p (record s { words = words.1; limit = limits.failing p.draws t r s.limit }) r t failure h
    (start_of (answer plan h).decision)
