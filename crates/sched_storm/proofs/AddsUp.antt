-- The report of every storm adds up.
use Rattle.std.proofs.Common.{◌≡◌, ℕ, ◌+◌, ◌/◌, ◌≤◌, Bool, true, false, cond, IsTrue, List, []}
use Rattle.std.proofs.Common.{◌∷◌, length, Vec, vec_len, refl, sym, ap, subst, ◌∙◌, arith}
use native.Mathlib.Nat.{div-mul-le_self}
use Rattle.std.specs.Prelude.{count_by, Option, None}
use Rattle.std.specs.Global.{Global}
use Rattle.std.proofs.lemmas.Bool.{false≢true}
use Rattle.std.proofs.lemmas.Nat.{le-div}
use Rattle.std.proofs.lemmas.List.Sums.{sum_by-cons}
use Rattle.std.proofs.lemmas.List.FromFn.{length-map-range_with_len}
use Rattle.sched_plan.specs.Schedule.{Schedule}
use Rattle.sched_storm_trace.specs.Trace.{Due, Event, told_by}
use Rattle.sched_storm_report.specs.Counts.{no_counts, ended_in, AddUpTo}
use Rattle.sched_storm_report.specs.Moments.{is_success, is_refused, is_shed, is_late, is_lost}
use Rattle.sched_storm_report.specs.Moments.{is_denied, is_won_from, always, latest, score_of, times_of}
use Rattle.sched_storm_report.specs.Report.{window_of, windows_of, in_order, totals_of, recovered_in, IsReport}
use Rattle.sched_storm_report.specs.Laws.{AreTimes, is_turned_away, turned_away}
use Rattle.sched_storm_report.proofs.Laws.{score_adds_up, are_times}
use Rattle.sched_storm_report.specs.declared.moments.Failure.TheVariants as failure
use Rattle.sched_storm_report.specs.declared.moments.Then.TheVariants.{Lost, Denied, Waits}
use Rattle.sched_storm_report.specs.declared.moments.Happening.{Happening}
use Rattle.sched_storm_report.specs.declared.moments.Happening.TheVariants.{Request, Retry, Won, Failed, Refused}
use Rattle.sched_storm_report.specs.declared.moments.Moment.{Moment}
use Rattle.sched_storm_report.specs.declared.report.Report.{Report}
use Rattle.sched_storm_report.specs.declared.report.Totals.{Totals}
use Rattle.sched_storm_report.specs.declared.tally.Window.{Window}
use Rattle.sched_storm_limit.specs.Ranges.{has_draws}
use Rattle.sched_storm.specs.Parameters.{AreInRange, peer_of, end_of_trouble}
use Rattle.sched_storm.specs.Tickets.{asked_of, given_of, HasUses, AreFew}
use Rattle.sched_storm.specs.Plays.{Stage, Shared, start_at, played}
use Rattle.sched_storm.specs.Storms.{calls_of, EndsSo, IsStorm, ends_of, IsReportOf}
use Rattle.sched_storm.specs.Reported.{reported}
use Rattle.sched_storm.specs.Report.{AreInWindows, AreGranted, AddsUp}
use Rattle.sched_storm.proofs.Bounds.{few_more, tickets-le}
use Rattle.sched_storm.proofs.Uses.{all_uses}
use Rattle.sched_storm.proofs.Balances.{ends_call, ends_request, none_turned_away, ends-le, retries-le}
use Rattle.sched_storm.proofs.Balances.{over-le, requests-le, by_until, latest-le}
use Rattle.sched_storm.proofs.Lawful.{TicketsAre, recounted, none_are, along}
use Rattle.sched_storm.specs.declared.parameters.Parameters.{Parameters}
use Rattle.sched_storm.specs.declared.tickets.Drawn.{Drawn}
use Rattle.sched_storm_limit.specs.declared.draws.Draws.{Draws}
use Rattle.sched_storm_limit.specs.declared.draws.Draws.TheVariants.{Nothing, Budget, Quota, Limited}

-- one where something of this kind is told
abbrev one : (Happening → Bool) → Moment → ℕ
one test m = cond (test m.what) 1 0

end_is : (what : Happening) → cond {A = ℕ} (is_success what) 1 0 + (cond {A = ℕ} (is_refused what) 1 0 +
    cond {A = ℕ} (is_shed what) 1 0 + cond {A = ℕ} (is_late what) 1 0) ≡ cond {A = ℕ} (ends_call what) 1 0
end_is Request = refl
end_is Retry = refl
end_is (Won began) = refl
end_is (Failed failure.Refused next) = refl
end_is (Failed failure.Shed next) = refl
end_is (Failed failure.Late next) = refl
end_is Refused = refl

over_is : (what : Happening) → cond {A = ℕ} (is_won_from always what) 1 0 + cond {A = ℕ} (is_lost what) 1 0 +
    cond {A = ℕ} (is_denied what) 1 0 ≡ cond {A = ℕ} (ends_request what) 1 0
over_is Request = refl
over_is Retry = refl
over_is (Won began) = refl
over_is (Failed f Lost) = refl
over_is (Failed f Denied) = refl
over_is (Failed f (Waits ticket)) = refl
over_is Refused = refl

-- the calls that ended, and the requests
ended : (ms : List Moment) → ended_in (score_of ms).all ≡ count_by (λ (m : Moment). ends_call m.what) ms
ended [] = refl
ended (m ∷ ms) =
    let rest = ended ms in
    let first = end_is m.what in
    let a = sum_by-cons (one is_success) m ms in
    let b = sum_by-cons (one is_refused) m ms in
    let c = sum_by-cons (one is_shed) m ms in
    let d = sum_by-cons (one is_late) m ms in
    let e = sum_by-cons (one ends_call) m ms in
    omega arith

over : (ms : List Moment) → (score_of ms).all.won + (score_of ms).lost + (score_of ms).denied ≡
    count_by (λ (m : Moment). ends_request m.what) ms
over [] = refl
over (m ∷ ms) =
    let rest = over ms in
    let first = over_is m.what in
    let a = sum_by-cons (one (is_won_from always)) m ms in
    let b = sum_by-cons (one is_lost) m ms in
    let c = sum_by-cons (one is_denied) m ms in
    let d = sum_by-cons (one ends_request) m ms in
    omega arith

-- a storm has no more calls than it may, and one that is cut has as many
few_calls : (arrivals : List ℕ) (p : Parameters) (plans : ℕ → Schedule) (is_cut : Bool) (es : List (Event Stage))
    (due : ℕ → Option (Due Stage))
    (last : Shared) → EndsSo arrivals p plans is_cut es due last → calls_of arrivals p plans es ≤ p.calls
few_calls arrivals p plans true es due last ends = let same = ends.0 in omega arith
few_calls arrivals p plans false es due last ends = ends.0

all_calls : (arrivals : List ℕ) (p : Parameters) (plans : ℕ → Schedule) (is_cut : Bool) (es : List (Event Stage))
    (due : ℕ → Option (Due Stage))
    (last : Shared) → EndsSo arrivals p plans is_cut es due last → IsTrue is_cut →
    calls_of arrivals p plans es ≡ p.calls
all_calls arrivals p plans true es due last ends cut = ends.0
all_calls arrivals p plans false es due last ends cut = absurd (false≢true cut)

-- the windows of a quota, with the requests that were counted, where that is all of them
module _ (p : Parameters) (d : Drawn) (requests tickets granted : ℕ) (h : TicketsAre p d requests tickets granted) where
  uses_are : (w : ℕ) × HasUses p.draws w (asked_of d) tickets
  uses_are =
      let uses = all_uses p.draws p.until d h.lawful h.past in
      (uses.0, subst (λ n. HasUses p.draws uses.0 (asked_of d) n) h.given uses.1)

  -- where retries draw on nothing no request is counted, and nothing is said of windows
  nothing_used : (draws : Draws) → has_draws draws ≡ false → HasUses draws 0 requests tickets
  nothing_used Nothing none = tt
  nothing_used (Budget limit) none = absurd (false≢true (sym none))
  nothing_used (Quota terms) none = absurd (false≢true (sym none))
  nothing_used (Limited limit) none = absurd (false≢true (sym none))

  in_windows : AreInWindows p requests tickets
  in_windows = elim (has_draws p.draws) as (λ b. has_draws p.draws ≡ b → AreInWindows p requests tickets) [
    | true ↦ λ has. record {
      window = uses_are.0;
      asked = asked_of d;
      uses = uses_are.1;
      few = h.asked;
      all = λ all. h.all_asked all has;
    }
    | false ↦ λ none. record {
      window = 0;
      asked = requests;
      uses = nothing_used p.draws none;
      few = omega arith;
      all = λ _. refl;
    }
  ] refl

-- each request that is denied before its first call is denied
one_denied : (what : Happening) → cond {A = ℕ} (is_turned_away what) 1 0 ≤ cond {A = ℕ} (is_denied what) 1 0
one_denied Request = omega arith
one_denied Retry = omega arith
one_denied (Won began) = omega arith
one_denied (Failed f Lost) = omega arith
one_denied (Failed f Denied) = omega arith
one_denied (Failed f (Waits ticket)) = omega arith
one_denied Refused = omega arith

away_denied : (ms : List Moment) → turned_away ms ≤ (score_of ms).denied
away_denied [] = omega arith
away_denied (m ∷ ms) =
    let rest = away_denied ms in
    let here = one_denied m.what in
    let a = sum_by-cons (one is_turned_away) m ms in
    let b = sum_by-cons (one is_denied) m ms in
    omega arith

-- ---- the report

module _ (arrivals : List ℕ) (p : Parameters) (plans : ℕ → Schedule) (is_cut : Bool) (es : List (Event Stage))
    (in_range : AreInRange p)
    (storm : IsStorm arrivals p plans is_cut es) where
  abbrev ms : List Moment
  ms = told_by (played p plans) (start_at arrivals p) es

  abbrev at_end : Totals
  at_end = totals_of (ends_of p is_cut) (windows_of (peer_of p) p.window ms) (score_of ms) (in_order (times_of ms))

  tickets_are : TicketsAre p storm.last.drawn (score_of ms).all.requests (score_of ms).tickets (score_of ms).granted
  tickets_are = recounted p storm.last.drawn _ _ _ _ _ _ (omega arith) (omega arith) (omega arith)
      (along p plans in_range.draws es (start_at arrivals p) storm.last 0 0 0
      (by_until arrivals p plans es storm.due storm.last storm.plays)
      storm.plays.answers (none_are p))

  granted : AreGranted p at_end
  granted =
      let s = score_of ms in
      let laws = score_adds_up ms in
      let calls = laws.calls in
      let failures = laws.failures in
      let k = tickets_are in
      let given = k.given in
      record {
        granted = s.granted;
        failures = omega arith;
        retries = retries-le arrivals p plans es storm.due storm.last storm.plays;
        few = laws.tickets;
        tickets = k.all_given;
        uses = ∣ in_windows p storm.last.drawn s.all.requests s.tickets s.granted k ∣₁;
        limit = subst (λ n. AreFew p.draws p.until s.all.requests n) given
            (few_more p.draws p.until (asked_of storm.last.drawn) s.all.requests (given_of storm.last.drawn) k.asked
            (tickets-le p.draws p.until storm.last.drawn k.lawful));
      }

  -- A report on a storm, of all requests or of those of one population, has no more windows than there are until its
  -- end.
  pub few_windows : (of : Option ℕ) (r : Report) → IsReportOf arrivals p plans of is_cut es r →
      vec_len r.windows ≤ p.until / p.window + 1
  few_windows of r told =
      let ms = reported p plans of (start_at arrivals p) es in
      let some = in_range.report.some in
      let len : length r.windows.items ≡ latest 0 ms / p.window + 1 =
      ap length told.windows ∙ length-map-range_with_len (window_of (peer_of p) p.window ms) 0
      (latest 0 ms / p.window + 1) in
      let all : vec_len r.windows ≡ length r.windows.items = r.windows.ok.0 in
      let whole = div-mul-le_self (latest 0 ms) p.window in
      let by = latest-le arrivals p plans es storm.due storm.last storm.plays of in
      let last = le-div (latest 0 ms / p.window) p.until p.window (omega arith) (omega arith) in
      omega arith

  totals_add_up : (windows : Vec Window Global) → windows.items ≡ windows_of (peer_of p) p.window ms →
      vec_len windows ≤ p.until / p.window + 1 → AddUpTo windows.items no_counts at_end.counts → AreTimes at_end →
      AddsUp arrivals p (record { windows = windows; totals = at_end })
  totals_add_up windows are short sums times =
      let s = score_of ms in
      let laws = score_adds_up ms in
      let calls = laws.calls in
      let denied = away_denied ms in
      let over_is = over ms in
      let over_few = over-le arrivals p plans es storm.due storm.last storm.plays in
      let ended_are = ended ms in
      let ended_few = ends-le arrivals p plans es storm.due storm.last storm.plays in
      let few = few_calls arrivals p plans is_cut es storm.due storm.last storm.ends in
      record {
        windows = sums;
        few_windows = short;
        endings = omega arith;
        successes = laws.successes;
        calls = omega arith;
        turned_away = omega arith;
        none_away = λ none.
            let zero = none_turned_away arrivals p plans es storm.due storm.last storm.plays none in
            omega arith;
        hundredths = refl;
        times = times;
        recovered = ap (recovered_in (end_of_trouble p)) (sym are);
        ended = omega arith;
        retries = granted;
        requests = requests-le arrivals p plans es storm.due storm.last storm.plays;
        few = omega arith;
        cut = λ h. all_calls arrivals p plans is_cut es storm.due storm.last storm.ends h;
      }

  -- what is told of all requests is what happened
  reported_all : (s : Shared) (es : List (Event Stage)) → reported p plans None s es ≡ told_by (played p plans) s es
  reported_all s [] = refl
  reported_all s (e ∷ es) =
      let a = played p plans s e.request e.due in ap (λ ms. a.told ∷ ms) (reported_all a.shared es)

  adds_up_told : (r : Report) → IsReport (peer_of p) (ends_of p is_cut) p.window ms r →
      vec_len r.windows ≤ p.until / p.window + 1 → AddUpTo r.windows.items no_counts r.totals.counts →
      AddsUp arrivals p r
  adds_up_told r told short sums =
      subst (λ (t : Totals). AddsUp arrivals p (record { windows = r.windows; totals = t })) (sym told.totals)
      (totals_add_up r.windows told.windows short (subst (λ (t : Totals). AddUpTo r.windows.items no_counts t.counts)
      told.totals sums)
      (subst AreTimes told.totals (are_times (peer_of p) (ends_of p is_cut) p.window ms r told)))

  pub adds_up : (of : Option ℕ) → of ≡ None → (r : Report) → IsReportOf arrivals p plans of is_cut es r →
      AddUpTo r.windows.items no_counts r.totals.counts → AddsUp arrivals p r
  adds_up of all r told sums =
      let of_all : IsReport (peer_of p) (ends_of p is_cut) p.window (reported p plans None (start_at arrivals p) es) r =
      subst (λ o. IsReport (peer_of p) (ends_of p is_cut) p.window (reported p plans o
      (start_at arrivals p) es) r) all told in
      adds_up_told r (subst (λ ms. IsReport (peer_of p) (ends_of p is_cut) p.window ms r)
      (reported_all (start_at arrivals p) es) of_all) (few_windows of r told) sums
