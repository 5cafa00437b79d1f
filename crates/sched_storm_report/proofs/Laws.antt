-- What holds of the report of every list of moments.
use Rattle.std.proofs.Common.{◌≡◌, ℕ, ◌+◌, ◌≤◌, Bool, true, false, cond, List, [], ◌∷◌, length, count_by, refl}
use Rattle.std.proofs.Common.{sym, ap, ◌∙◌, arith}
use Rattle.std.specs.List.{cons_option}
use Rattle.std.proofs.lemmas.List.Sums.{sum_by-cons}
use Rattle.sched_storm_report.specs.Laws.{is_turned_away, turned_away, AreTimes, ScoreAddsUp}
use Rattle.sched_storm_report.specs.Moments.{is_request, is_retry, is_call, is_success, is_refused, is_shed, is_late}
use Rattle.sched_storm_report.specs.Moments.{is_lost, is_denied, is_granted, is_ticket, is_won_from, always, score_of}
use Rattle.sched_storm_report.specs.Moments.{time_at, times_of}
use Rattle.sched_storm_report.specs.Report.{in_order, IsReport}
use Rattle.sched_storm_report.proofs.Sorted.{in_order_sorted, length_in_order}
use Rattle.sched_storm_report.specs.declared.moments.Failure.TheVariants as failed
use Rattle.sched_storm_report.specs.declared.moments.Then.TheVariants.{Lost, Denied, Waits}
use Rattle.sched_storm_report.specs.declared.moments.Happening.{Happening}
use Rattle.sched_storm_report.specs.declared.moments.Happening.TheVariants.{Request, Retry, Won, Failed, Refused}
use Rattle.sched_storm_report.specs.declared.moments.Moment.{Moment}
use Rattle.sched_storm_report.specs.declared.peer.Peer.{Peer}
use Rattle.sched_storm_report.specs.declared.report.Ends.{Ends}
use Rattle.sched_storm_report.specs.declared.report.Report.{Report}

-- one where something of this kind happens
abbrev one : (Happening → Bool) → Moment → ℕ
one test m = cond (test m.what) 1 0

-- what happens at one moment
call_is : (what : Happening) → cond {A = ℕ} (is_call what) 1 0 + cond {A = ℕ} (is_turned_away what) 1 0 ≡
    cond {A = ℕ} (is_request what) 1 0 + cond {A = ℕ} (is_retry what) 1 0
call_is Request = refl
call_is Retry = refl
call_is (Won began) = refl
call_is (Failed failure next) = refl
call_is Refused = refl

failure_is : (what : Happening) → cond {A = ℕ} (is_refused what) 1 0 + cond {A = ℕ} (is_shed what) 1 0 +
    cond {A = ℕ} (is_late what) 1 0 + cond {A = ℕ} (is_turned_away what) 1 0 ≡
    cond {A = ℕ} (is_lost what) 1 0 + cond {A = ℕ} (is_denied what) 1 0 + cond {A = ℕ} (is_granted what) 1 0
failure_is Request = refl
failure_is Retry = refl
failure_is (Won began) = refl
failure_is (Failed failed.Refused Lost) = refl
failure_is (Failed failed.Refused Denied) = refl
failure_is (Failed failed.Refused (Waits ticket)) = refl
failure_is (Failed failed.Shed Lost) = refl
failure_is (Failed failed.Shed Denied) = refl
failure_is (Failed failed.Shed (Waits ticket)) = refl
failure_is (Failed failed.Late Lost) = refl
failure_is (Failed failed.Late Denied) = refl
failure_is (Failed failed.Late (Waits ticket)) = refl
failure_is Refused = refl

ticket_is : (what : Happening) → cond {A = ℕ} (is_ticket what) 1 0 ≤ cond {A = ℕ} (is_granted what) 1 0
ticket_is Request = omega arith
ticket_is Retry = omega arith
ticket_is (Won began) = omega arith
ticket_is (Failed failure Lost) = omega arith
ticket_is (Failed failure Denied) = omega arith
ticket_is (Failed failure (Waits true)) = omega arith
ticket_is (Failed failure (Waits false)) = omega arith
ticket_is Refused = omega arith

success_is : (what : Happening) → cond {A = ℕ} (is_success what) 1 0 ≡ cond {A = ℕ} (is_won_from always what) 1 0
success_is Request = refl
success_is Retry = refl
success_is (Won began) = refl
success_is (Failed failure next) = refl
success_is Refused = refl

successes : (told : List Moment) → count_by (λ m. is_success m.what) told
    ≡ count_by (λ m. is_won_from always m.what) told
successes [] = refl
successes (m ∷ ms) =
    let rest = successes ms in
    let first = success_is m.what in
    let a = sum_by-cons (one is_success) m ms in
    let b = sum_by-cons (one (is_won_from always)) m ms in
    omega arith

calls : (told : List Moment) → count_by (λ m. is_call m.what) told + turned_away told ≡
    count_by (λ m. is_request m.what) told + count_by (λ m. is_retry m.what) told
calls [] = refl
calls (m ∷ ms) =
    let rest = calls ms in
    let first = call_is m.what in
    let a = sum_by-cons (one is_call) m ms in
    let b = sum_by-cons (one is_turned_away) m ms in
    let c = sum_by-cons (one is_request) m ms in
    let d = sum_by-cons (one is_retry) m ms in
    omega arith

failures : (told : List Moment) → count_by (λ m. is_refused m.what) told + count_by (λ m. is_shed m.what) told +
    count_by (λ m. is_late m.what) told + turned_away told ≡
    count_by (λ m. is_lost m.what) told + count_by (λ m. is_denied m.what) told + count_by (λ m. is_granted m.what) told
failures [] = refl
failures (m ∷ ms) =
    let rest = failures ms in
    let first = failure_is m.what in
    let a = sum_by-cons (one is_refused) m ms in
    let b = sum_by-cons (one is_shed) m ms in
    let c = sum_by-cons (one is_late) m ms in
    let d = sum_by-cons (one is_turned_away) m ms in
    let e = sum_by-cons (one is_lost) m ms in
    let f = sum_by-cons (one is_denied) m ms in
    let g = sum_by-cons (one is_granted) m ms in
    omega arith

tickets : (told : List Moment) → count_by (λ m. is_ticket m.what) told ≤ count_by (λ m. is_granted m.what) told
tickets [] = omega arith
tickets (m ∷ ms) =
    let rest = tickets ms in
    let first = ticket_is m.what in
    let a = sum_by-cons (one is_ticket) m ms in
    let b = sum_by-cons (one is_granted) m ms in
    omega arith

pub score_adds_up : (told : List Moment) → ScoreAddsUp told (score_of told)
score_adds_up told = record {
  successes = successes told;
  calls = calls told;
  failures = failures told;
  tickets = tickets told;
}

-- each request that was won has its time
time_is : (at : ℕ) (what : Happening) (ts : List ℕ) →
    length (cons_option (time_at at what) ts) ≡ cond {A = ℕ} (is_won_from always what) 1 0 + length ts
time_is at Request ts = omega arith
time_is at Retry ts = omega arith
time_is at (Won began) ts = omega arith
time_is at (Failed failure next) ts = omega arith
time_is at Refused ts = omega arith

times : (told : List Moment) → length (times_of told) ≡ count_by (λ m. is_won_from always m.what) told
times [] = refl
times (m ∷ ms) =
    time_is m.at m.what (times_of ms) ∙ (ap (λ n. one (is_won_from always) m + n) (times ms)
    ∙ sym (sum_by-cons (one (is_won_from always)) m ms))

module _ (peer : Peer) (ends : Ends) (window : ℕ) (told : List Moment) (r : Report)
    (is : IsReport peer ends window told r) where
  pub are_times : AreTimes r.totals
  are_times = record {
    times = in_order (times_of told);
    each = length_in_order (times_of told) ∙ (times told ∙ sym (ap (λ t. t.counts.won) is.totals));
    sorted = in_order_sorted (times_of told);
    p50 = ap (λ t. t.p50) is.totals;
    p99 = ap (λ t. t.p99) is.totals;
    slowest = ap (λ t. t.slowest) is.totals;
  }
