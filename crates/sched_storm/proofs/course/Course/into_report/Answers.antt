-- What was told of the events of a course that is over is the storm's report.
use Rattle.sched_storm.proofs.Reports.{told_of, reports_of, report_is}
use Rattle.sched_storm.proofs.AddsUp.{adds_up, few_windows}
use Rattle.sched_storm.specs.Clients.{plans_of}
use Rattle.sched_storm.proofs.course.Course.into_report.Goals as goal

pub into_report-requires-clause-few : goal.into_report-requires-clause-few
into_report-requires-clause-few c = c.requires.said

pub returns-clause-reports : goal.returns-clause-reports
returns-clause-reports c =
    let over = c.requires in
    let ms = told_of c.args.self c.args.is_cut over in
    let told = c.in_ok-report.ensures.report ms (over.told c.peer.result c.peer.ensures.value) in
    reports_of c.args.self c.args.is_cut over c.in_ok-report.report
    (report_is c.args.self c.args.is_cut over c.in_ok-report.report c.peer.result c.end_of_trouble.result
    c.peer.ensures.value c.end_of_trouble.ensures told)

pub returns-clause-adds_up : goal.returns-clause-adds_up
returns-clause-adds_up c = λ all.
    let over = c.requires in
    let ms = told_of c.args.self c.args.is_cut over in
    let told = c.in_ok-report.ensures.report ms (over.told c.peer.result c.peer.ensures.value) in
    adds_up c.args.self.arrivals.now c.args.self.storm (plans_of c.args.self.clients) c.args.is_cut over.events
    over.in_range over.is_storm
    c.args.self.reporter.of all c.in_ok-report.report
    (report_is c.args.self c.args.is_cut over c.in_ok-report.report c.peer.result c.end_of_trouble.result
    c.peer.ensures.value c.end_of_trouble.ensures told)
    c.in_ok-report.ensures.sums

pub returns-clause-windows : goal.returns-clause-windows
returns-clause-windows c =
    let over = c.requires in
    let ms = told_of c.args.self c.args.is_cut over in
    let told = c.in_ok-report.ensures.report ms (over.told c.peer.result c.peer.ensures.value) in
    few_windows c.args.self.arrivals.now c.args.self.storm
    (plans_of c.args.self.clients) c.args.is_cut over.events over.in_range over.is_storm
    c.args.self.reporter.of c.in_ok-report.report
    (report_is c.args.self c.args.is_cut over c.in_ok-report.report c.peer.result c.end_of_trouble.result
    c.peer.ensures.value c.end_of_trouble.ensures told)
