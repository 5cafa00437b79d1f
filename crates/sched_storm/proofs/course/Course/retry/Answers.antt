-- A retry is answered by what becomes of its call.
use Rattle.std.proofs.Common.{◌+◌, refl, sym, subst}
use Rattle.sched_storm.specs.Plays.{retries, Shared}
use Rattle.sched_storm_report.specs.declared.moments.Happening.TheVariants as happening
use Rattle.sched_storm.specs.Course.{shared_of, slot_of}
use Rattle.sched_storm.specs.Drivers.{DriverStands}
use Rattle.sched_storm.proofs.Answered.{client_is, for_client, near_by, coming_answered}
use Rattle.sched_storm.proofs.course.Course.retry.Goals as goal

pub call-called-requires-clause-at : goal.call-called-requires-clause-at
call-called-requires-clause-at c = near_by c.args.self.now c.args.turn.request c.at-client.result.now c.args.turn.at
    (client_is c.args.self.now c.args.turn.request c.population_of.result c.at-client.result.now
    c.population_of.ensures c.at-client.ensures) c.requires.ready

pub returns-clause-answered : goal.returns-clause-answered
returns-clause-answered c = λ h k.
    let old = c.args.self.now in
    let r = c.args.turn.request in
    let t = c.args.turn.at in
    let u = c.at-client.result.now in
    let of_r = client_is old r c.population_of.result u c.population_of.ensures c.at-client.ensures in
    let s : Shared = shared_of old in
    let stands = subst (λ v. DriverStands v.plan (slot_of old r) h) (sym of_r) k.0 in
    for_client old _ t r u (retries h) _ of_r
    (coming_answered old _ t r u of_r h happening.Retry s c.call-called.result
    c.after.result c.turn_by.result _ c.call-called.ensures.value c.after.ensures
    c.turn_by.ensures
    (λ i. let after : Shared = record s { busy = c.call-called.ensures.busy i; calls = s.calls + 1 } in after) refl
    c.in_ok-tell.ensures.told c.call-called.ensures.order stands k.1)
