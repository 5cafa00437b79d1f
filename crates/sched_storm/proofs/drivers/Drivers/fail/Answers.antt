-- The driver that a request has then stands for the failure too.
use Rattle.std.proofs.Common.{◌≡◌, ◌<◌, None, length, sym, ◌∙◌, ap, subst, rules}
use Rattle.sched_time.specs.Decision.{start_of}
use Rattle.sched_plan.specs.Answer.{answer}
use Rattle.sched_driver_stepper.specs.Standing.{Standing, StandsFor}
use Rattle.sched_storm.specs.Drivers.{DriverStands, with_failure, input_of}
use Rattle.sched_storm.proofs.Answered.{one_place, set_twice}
use Rattle.sched_storm.proofs.drivers.Drivers.fail.Goals as goal

pub returns : goal.returns
returns c = λ h stands.
    let few : c.args.request < length c.args.self.now.slots.items = search rules in
    let place = one_place c.args.self.now.slots.items c.args.request None c.index_mut.result.now few in
    let slot = c.take-slot.ensures.value ∙ (c.index_mut.ensures.value ∙ sym place) in
    let made = c.in_ok-driver.ensures h (subst (λ o. DriverStands c.args.plan.now o h) (sym slot) stands) in
    let same = c.deref_mut.ensures.value in
    let plan = ap (λ (v : Standing). v.plan) same ∙ made.0 in
    let stood = subst (λ v. StandsFor v h) (sym same) made.1 in
    record {
      driver = _;
      are = set_twice c.args.self.now.slots.items c.args.request _ _;
      stands = (c.in_ok-start.ensures.plan ∙ plan, c.in_ok-start.ensures.stands h stood);
      planned = subst (λ s. c.in_ok-start.start ≡ start_of (answer s
          (with_failure h c.args.at c.args.words (input_of c.args.failure))).decision) plan
          (c.in_ok-start.ensures.law h stood);
      later = c.in_ok-start.ensures.later;
    }
