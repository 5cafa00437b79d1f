-- A round of work goes on from the share, and closes the jobs that are over.
use Rattle.std.proofs.Common.{◌≡◌, ◌++◌, rules, length, take, drop, min, ap, subst, arith}
use Rattle.std.proofs.lemmas.Result.{IfOk-weaker, IfErr-weaker}
use Rattle.sched_wheel.specs.Polled.{IsLeft}
use Rattle.sched_wheel.proofs.Polls.{left_by_course}
use Rattle.sched_pool_worker.specs.Working.{numbers}
use Rattle.sched_pool_worker.proofs.Closings.{Drove, course_numbers, drove, all_closed, some_left, fewer_left}
use Rattle.sched_pool_worker.proofs.Shares.{went_nowhere, went_by_closing}
use Rattle.sched_pool_worker.proofs.works.work_some.Goals.{After-run-ended}
use Rattle.sched_pool_worker.proofs.works.work_some.Goals as goal

pub returns-in_err-seats-clause-went_on : goal.returns-in_err-seats-clause-went_on
returns-in_err-seats-clause-went_on g c = went_nowhere _

-- the seats that were driven are those of the share's first active jobs
drives : (g : _) (c : After-run-ended g) →
    Drove (take c.in_ok-seats.seats.len (c.run-ended.new.tasks ++ drop (length c.run-ended.new.tasks)
    c.in_ok-seats.seats.items)) c.run-ended.new.tasks c.args.share.now.active c.in_ok-seats.seats.len
    c.args.station.now.hold
drives g c =
    let made = c.in_ok-seats.seats.items in
    let active = c.args.share.now.active in
    let first = c.min-first.result in
    let are : numbers made ≡ take first active =
    subst (λ l. numbers made ≡ take first l) c.active-active.ensures.active c.in_ok-seats.ensures in
    let kept = course_numbers _ _ _ _ _ _ _ c.run-ended.ensures.polled in
    let long : c.in_ok-seats.seats.len ≡ length made = omega (arith, c.in_ok-seats.seats.ok.0) in
    let least : first ≡ min (length active) c.args.station.now.hold = search rules in
    drove made _ _ active first _ _ are c.as_mut_slice-tasks.ensures.value kept long least

pub close_over-requires : goal.close_over-requires
close_over-requires g c = (drives g (goal.at.close_over-requires g c).After-run-ended).numbers_are

pub returns-clause-went_on : goal.returns-clause-went_on
returns-clause-went_on g c =
    went_by_closing _ _ _ _ c.close_over.ensures.pass
    (drives g (goal.at.returns-clause-went_on g c).After-run-ended).numbers_are c.close_over.ensures.active

pub returns-clause-fewer : goal.returns-clause-fewer
returns-clause-fewer g c =
    fewer_left _ _ _ _ _ _ c.close_over.ensures.active (drives g (goal.at.returns-clause-fewer g c).After-run-ended)

pub returns-clause-over : goal.returns-clause-over
returns-clause-over g c =
    let driven = drives g (goal.at.returns-clause-over g c).After-run-ended in
    IfOk-weaker c.run-ended.result _ _
    (λ used all. all_closed _ _ _ _ _ _ c.close_over.ensures.active driven all) c.run-ended.ensures.over

pub returns-clause-spent : goal.returns-clause-spent
returns-clause-spent g c =
    let driven = drives g (goal.at.returns-clause-spent g c).After-run-ended in
    IfErr-weaker c.run-ended.result _ _
    (λ stop left spent. some_left _ _ _ _ _ _ c.close_over.ensures.active driven (left spent)) c.run-ended.ensures.spent

pub returns-clause-polls : goal.returns-clause-polls
returns-clause-polls g c =
    subst (λ rng. IsLeft c.args.turns (g.G.Rng.stream rng) (g.G.Rng.stream c.run-ended.new.rng))
    (ap (λ p. p.rng) c.station.view_is)
    (left_by_course _ _ _ _ _ _ _ _ c.run-ended.ensures.polled)

pub returns-clause-used : goal.returns-clause-used
returns-clause-used g c =
    IfOk-weaker c.run-ended.result _ _
    (λ used course. subst (λ rng. IsLeft used (g.G.Rng.stream rng) (g.G.Rng.stream c.run-ended.new.rng))
    (ap (λ p. p.rng) c.station.view_is)
    (left_by_course _ _ _ _ _ _ _ _ course))
    c.run-ended.ensures.used
