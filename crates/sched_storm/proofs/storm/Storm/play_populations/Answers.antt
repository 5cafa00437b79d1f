-- The course that is played is that of the storm and of the plans.
use Rattle.std.proofs.Common.{◌≡◌, ◌+◌, ◌/◌, ◌≤◌, IfOk, vec_len, subst, ap, ◌∙◌}
use Rattle.sched_storm.specs.Clients.{plan_at, plans_of}
use Rattle.sched_storm.specs.Report.{AddsUp}
use Rattle.sched_storm.specs.Storms.{ReportsOn}
use Rattle.sched_storm.specs.declared.clients.Client.{Client}
use Rattle.sched_storm.proofs.storm.Storm.play_populations.Goals as goal

pub new-course-requires-clause-clients : goal.new-course-requires-clause-clients
new-course-requires-clause-clients c = λ k. ap (λ (u : Client). u.storm) (c.in_ok-clients.ensures k)

pub returns-clause-reports : goal.returns-clause-reports
returns-clause-reports c =
    let storm = c.in_ok-is_cut.ensures.storm ∙ c.new-course.ensures.storm in
    let clients = c.in_ok-is_cut.ensures.clients ∙ c.new-course.ensures.clients in
    let arrivals = c.in_ok-is_cut.ensures.arrivals ∙ c.new-course.ensures.arrivals in
    let of = c.in_ok-is_cut.ensures.of ∙ c.new-course.ensures.of in
    let are : plans_of c.in_ok-clients.clients ≡ (λ k. plan_at k c.args.plans) =
    λ i. λ k. (c.in_ok-clients.ensures k i).plan in
    let plans = ap plans_of clients ∙ are in
    subst (λ ms. IfOk c.into_report.result (ReportsOn ms c.args.self.now
    (λ k. plan_at k c.args.plans) c.args.of)) arrivals
    (subst (λ p. IfOk c.into_report.result
    (ReportsOn c.run.new.self.arrivals.now p (λ k. plan_at k c.args.plans) c.args.of)) storm
    (subst (λ ps. IfOk c.into_report.result
    (ReportsOn c.run.new.self.arrivals.now c.run.new.self.storm ps c.args.of)) plans
    (subst (λ o. IfOk c.into_report.result
    (ReportsOn c.run.new.self.arrivals.now c.run.new.self.storm (plans_of c.run.new.self.clients) o)) of
    c.into_report.ensures.reports)))

pub returns-clause-adds_up : goal.returns-clause-adds_up
returns-clause-adds_up c = λ all.
    let storm = c.in_ok-is_cut.ensures.storm ∙ c.new-course.ensures.storm in
    let arrivals = c.in_ok-is_cut.ensures.arrivals ∙ c.new-course.ensures.arrivals in
    let of = c.in_ok-is_cut.ensures.of ∙ c.new-course.ensures.of in
    subst (λ ms. IfOk c.into_report.result (AddsUp ms c.args.self.now)) arrivals
    (subst (λ p. IfOk c.into_report.result (AddsUp c.run.new.self.arrivals.now p)) storm
    (c.into_report.ensures.adds_up (of ∙ all)))

pub returns-clause-windows : goal.returns-clause-windows
returns-clause-windows c =
    let storm = c.in_ok-is_cut.ensures.storm ∙ c.new-course.ensures.storm in
    subst (λ p. IfOk c.into_report.result (λ r. vec_len r.windows ≤ p.until / p.window + 1)) storm
    c.into_report.ensures.windows
