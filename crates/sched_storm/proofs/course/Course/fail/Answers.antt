-- A failure is told, and answered by its request's driver, and by the limit or a ticket.
use Rattle.std.proofs.Common.{◌<◌, Some, None, length, get_or, get_or-set_same, refl, subst, sym, ap}
use Rattle.std.proofs.Common.{◌∙◌, arith, rules}
use Rattle.std.specs.Prelude.{is_some}
use Rattle.sched_storm_limit.specs.States.{state_of}
use Rattle.sched_storm.specs.Plays.{fails}
use Rattle.sched_storm.specs.Drivers.{DriverStands, MayFail, with_failure, input_of}
use Rattle.sched_storm.specs.declared.drivers.Drivers.{Drivers}
use Rattle.sched_storm.specs.Course.{slot_of}
use Rattle.sched_storm.proofs.Answered.{client_is, for_client, failing_answered, last_given}
use Rattle.sched_storm.proofs.course.Course.fail.Goals as goal

pub returns-clause-answered : goal.returns-clause-answered
returns-clause-answered c = λ h k.
    let old = c.args.self.now in
    let r = c.args.turn.request in
    let t = c.args.turn.at in
    let u = c.at-client.result.now in
    let of_r = client_is old r c.population_of.result u c.population_of.ensures c.at-client.ensures in
    let answers = c.in_ok-start.ensures h (subst (λ v. DriverStands v.plan (slot_of old r) h) (sym of_r) k.0) in
    let few : r < length old.drivers.slots.items = search rules in
    let place = ap (λ xs. get_or xs r None) answers.are ∙ get_or-set_same old.drivers.slots.items r
    (Some answers.driver) None few in
    let given = with_failure h t c.four_words-words.result (input_of c.args.failure) in
    let last = last_given h t c.four_words-words.result (input_of c.args.failure) in
    for_client old _ t r u (fails c.args.failure h) _ of_r
    (failing_answered old _ t r u of_r c.args.failure h c.four_words-words.result c.in_ok-start.start
    (state_of c.tell_failed.new.limit) (state_of c.ask.new.limit) c.in_ok-is_granted.is_granted c.next-after.result
    c.four_words-words.ensures
    answers.planned answers.later c.tell_failed.ensures c.in_ok-is_granted.ensures c.next-after.ensures
    (record {
      arrivals = refl;
      busy = refl;
      begun = refl;
      words = refl;
      drawn = refl;
      limit_is = c.in_ok-tell_ended.ensures;
      calls = refl;
      told = c.in_ok-tell.ensures.told;
      stands = λ turn due.
          (let kept = c.keep_if.ensures.kept (c.is_some.ensures ∙ ap is_some due) in
          subst (λ o. DriverStands u.plan o given)
          (sym (ap (λ (x : Drivers). get_or x.slots.items r None) kept ∙ place)) answers.stands);
      order = omega arith;
    }))

pub fail-requires-clause-order : goal.fail-requires-clause-order
fail-requires-clause-order c =
    let old = c.args.self.now in
    let r = c.args.turn.request in
    subst (λ v. MayFail v.plan (slot_of old r) c.args.turn.at)
    (sym (client_is old r c.population_of.result c.at-client.result.now c.population_of.ensures c.at-client.ensures))
    c.requires.may
