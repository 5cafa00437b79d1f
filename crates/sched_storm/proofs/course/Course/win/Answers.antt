-- A success ends its request, which is won.
use Rattle.std.proofs.Common.{refl}
use Rattle.sched_storm.specs.Plays.{succeeds}
use Rattle.sched_storm.proofs.Answered.{client_is, for_client, won_answered}
use Rattle.sched_storm.proofs.course.Course.win.Goals as goal

pub returns-clause-answered : goal.returns-clause-answered
returns-clause-answered c =
    let old = c.args.self.now in
    let r = c.args.turn.request in
    let t = c.args.turn.at in
    let u = c.at-client.result.now in
    let of_r = client_is old r c.population_of.result u c.population_of.ensures c.at-client.ensures in
    for_client old _ t r u succeeds _ of_r
    (won_answered old _ t r u c.requires.ready of_r c.comes_at-began.result c.comes_at-began.ensures _
    c.in_ok-tell_succeeded.ensures refl refl c.in_ok-tell.ensures.told)
