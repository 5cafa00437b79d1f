-- The report of a course that is over is that of the storm.
use Rattle.std.proofs.Common.{◌≡◌, ℕ, Bool, List, ◌++◌, [], ◌∷◌, sym, ap, subst, ◌∙◌}
use Rattle.std.specs.Prelude.{Option}
use Rattle.std.proofs.lemmas.List.{append-nil, append_assoc}
use Rattle.sched_plan.specs.Schedule.{Schedule}
use Rattle.sched_storm_trace.specs.Trace.{Event, AreAnswered}
use Rattle.sched_storm_report.specs.Report.{IsReport}
use Rattle.sched_storm_report.specs.declared.moments.Moment.{Moment}
use Rattle.sched_storm_report.specs.declared.peer.Peer.{Peer}
use Rattle.sched_storm_report.specs.declared.report.Ends.{Ends}
use Rattle.sched_storm_report.specs.declared.report.Report.{Report}
use Rattle.sched_storm_report.specs.declared.report.Totals.{Totals}
use Rattle.sched_storm.specs.Parameters.{peer_of, end_of_trouble}
use Rattle.sched_storm.specs.Clients.{plans_of}
use Rattle.sched_storm.specs.Plays.{Stage, Shared, start_at, played}
use Rattle.sched_storm.specs.Reported.{told_on, reported}
use Rattle.sched_storm.specs.Storms.{IsStorm, ends_of, IsReportOf, ReportsOn}
use Rattle.sched_storm.specs.Course.{IsOver}
use Rattle.sched_storm.specs.declared.parameters.Parameters.{Parameters}
use Rattle.sched_storm.specs.declared.course.Course.{Course}
use Rattle.sched_storm.proofs.Storms.{of_all}

-- what is reported of one event more
pub reported_push : (p : Parameters) (plans : ℕ → Schedule) (of : Option ℕ) (s : Shared) (es : List (Event Stage))
    (last : Shared) (e : Event Stage) → AreAnswered (played p plans) s es last →
    reported p plans of s (es ++ e ∷ [])
    ≡ reported p plans of s es ++ told_on p of e.request (played p plans last e.request e.due).told
reported_push p plans of s [] last e h =
    append-nil (told_on p of e.request (played p plans s e.request e.due).told)
    ∙ ap (λ x. told_on p of e.request (played p plans x e.request e.due).told) h
reported_push p plans of s (f ∷ fs) last e h =
    let a = played p plans s f.request f.due in
    let here = told_on p of f.request a.told in
    ap (λ ms. here ++ ms) (reported_push p plans of a.shared fs last e h.1)
    ∙ sym (append_assoc here (reported p plans of a.shared fs)
    (told_on p of e.request (played p plans last e.request e.due).told))

-- what is told of the events of a course that is over
abbrev pub told_of : (c : Course) (is_cut : Bool) → IsOver c is_cut → List Moment
told_of c is_cut over = reported c.storm (plans_of c.clients) c.reporter.of
    (start_at c.arrivals.now c.storm) over.events

pub reports_of : (c : Course) (is_cut : Bool) (over : IsOver c is_cut) (r : Report) →
    IsReportOf c.arrivals.now c.storm (plans_of c.clients) c.reporter.of is_cut over.events r →
    ReportsOn c.arrivals.now c.storm (plans_of c.clients) c.reporter.of r
reports_of c is_cut over r told =
    let plans = plans_of c.clients in
    let of = c.reporter.of in
    let cut : r.totals.is_cut ≡ is_cut = ap (λ (t : Totals). t.is_cut) told.totals in
    record {
      events = over.events;
      is_storm = subst (λ b. IsStorm c.arrivals.now c.storm plans b over.events) (sym cut) over.is_storm;
      told = subst (λ b. IsReportOf c.arrivals.now c.storm plans of b over.events r) (sym cut) told;
      of_all = of_all c.arrivals.now c.storm plans of is_cut over.events r over.is_storm told;
    }

pub report_is : (c : Course) (is_cut : Bool) (over : IsOver c is_cut) (r : Report) (made : Peer) (trouble : ℕ) →
    made ≡ peer_of c.storm → trouble ≡ end_of_trouble c.storm →
    IsReport made (record { trouble = trouble; is_cut = is_cut }) c.reporter.tally.window
    (told_of c is_cut over) r →
    IsReportOf c.arrivals.now c.storm (plans_of c.clients) c.reporter.of is_cut over.events r
report_is c is_cut over r made trouble peer end h =
    let ms : List Moment = told_of c is_cut over in
    let ends : record { trouble = trouble; is_cut = is_cut } ≡ ends_of c.storm is_cut =
    λ i. record { trouble = end i; is_cut = is_cut } in
    subst (λ w. IsReport (peer_of c.storm) (ends_of c.storm is_cut) w ms r) over.window
    (subst (λ (e : Ends). IsReport (peer_of c.storm) e c.reporter.tally.window ms r) ends
    (subst (λ p. IsReport p (record { trouble = trouble; is_cut = is_cut }) c.reporter.tally.window ms r) peer h))
