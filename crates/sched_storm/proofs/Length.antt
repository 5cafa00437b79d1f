-- A beginning of a storm has an event for each call that begins, for each that ends, and for each request that is
-- denied before its first call.
use Rattle.std.proofs.Common.{◌≡◌, ℕ, suc, ◌+◌, ◌*◌, ◌≤◌, Bool, cond, List, [], ◌∷◌, length, Option, refl, ap, arith}
use Rattle.std.proofs.lemmas.List.Sums.{sum_by-cons}
use Rattle.std.specs.Prelude.{count_by}
use Rattle.sched_plan.specs.Schedule.{Schedule}
use Rattle.sched_storm_trace.specs.Trace.{Due, Event, IsBeginning, told_by}
use Rattle.sched_storm_report.specs.Moments.{is_request, is_call}
use Rattle.sched_storm_report.specs.Laws.{is_turned_away, turned_away}
use Rattle.sched_storm_report.specs.declared.moments.Happening.{Happening}
use Rattle.sched_storm_report.specs.declared.moments.Happening.TheVariants.{Request, Retry, Won, Failed, Refused}
use Rattle.sched_storm_report.specs.declared.moments.Moment.{Moment}
use Rattle.sched_storm.specs.Arrivals.{all_requests}
use Rattle.sched_storm.specs.Plays.{Stage, Shared, start_at, first, played}
use Rattle.sched_storm.specs.Storms.{calls_of}
use Rattle.sched_storm.specs.declared.parameters.Parameters.{Parameters}
use Rattle.sched_storm.proofs.Balances.{ends_call, ends-le, requests-le}

one_kind : (what : Happening) → cond {A = ℕ} (is_call what) 1 0 + cond {A = ℕ} (ends_call what) 1 0
    + cond {A = ℕ} (is_turned_away what) 1 0 ≡ 1
one_kind Request = refl
one_kind Retry = refl
one_kind (Won began) = refl
one_kind (Failed failure next) = refl
one_kind Refused = refl

-- one where something of this kind is told
abbrev one : (Happening → Bool) → Moment → ℕ
one test m = cond (test m.what) 1 0

all_kinds : (ms : List Moment) → count_by (λ (m : Moment). is_call m.what) ms
    + count_by (λ (m : Moment). ends_call m.what) ms + turned_away ms ≡ length ms
all_kinds [] = refl
all_kinds (m ∷ ms) =
    let rest = all_kinds ms in
    let kind = one_kind m.what in
    let a = sum_by-cons (one is_call) m ms in
    let b = sum_by-cons (one ends_call) m ms in
    let c = sum_by-cons (one is_turned_away) m ms in
    omega arith

one_away : (what : Happening) → cond {A = ℕ} (is_turned_away what) 1 0 ≤ cond {A = ℕ} (is_request what) 1 0
one_away Request = omega arith
one_away Retry = omega arith
one_away (Won began) = omega arith
one_away (Failed failure next) = omega arith
one_away Refused = omega arith

away-le : (ms : List Moment) → turned_away ms ≤ count_by (λ (m : Moment). is_request m.what) ms
away-le [] = omega arith
away-le (m ∷ ms) =
    let rest = away-le ms in
    let here = one_away m.what in
    let a = sum_by-cons (one is_turned_away) m ms in
    let b = sum_by-cons (one is_request) m ms in
    omega arith

told_length : (p : Parameters) (plans : ℕ → Schedule) (s : Shared) (es : List (Event Stage)) →
    length (told_by (played p plans) s es) ≡ length es
told_length p plans s [] = refl
told_length p plans s (e ∷ es) =
    let a = played p plans s e.request e.due in
    let rest = told_length p plans a.shared es in
    ap (λ n. suc n) rest

pub few_events : (arrivals : List ℕ) (p : Parameters) (plans : ℕ → Schedule) (es : List (Event Stage)) (due : ℕ →
    Option (Due Stage))
    (last : Shared) →
    IsBeginning (played p plans) (first arrivals p) (start_at arrivals p) es due last →
    length es ≤ 2 * calls_of arrivals p plans es + all_requests arrivals p
few_events arrivals p plans es due last h =
    let ms : List Moment = told_by (played p plans) (start_at arrivals p) es in
    let ends = ends-le arrivals p plans es due last h in
    let requests = requests-le arrivals p plans es due last h in
    let kinds = all_kinds ms in
    let away = away-le ms in
    let same = told_length p plans (start_at arrivals p) es in
    omega arith
