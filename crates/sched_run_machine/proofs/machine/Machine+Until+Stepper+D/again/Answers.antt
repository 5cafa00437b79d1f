-- A retry that begins again has not begun, by the plan that it had.
use Rattle.std.proofs.Common.{◌≡◌, ℕ, false, [], Option, None, is_some, refl, sym, ap, subst, ◌∙◌}
use Rattle.sched_plan.specs.Schedule.{Schedule}
use Rattle.sched_driver_stepper.specs.Standing.{Standing, standing_after}
use Rattle.sched_task_law.specs.Kind.{a_retry}
use Rattle.sched_task_law.proofs.Lists.{by_test}
use Rattle.sched_ticket_draws.specs.Grants.{Grants, Lawful}
use Rattle.sched_run_machine.specs.Again.{unstepped_until}
use Rattle.sched_run_machine.specs.Drives.{Until, by_stepper, by_until}
use Rattle.sched_run_machine.specs.Machine.{Machine, begins, unbegun, Cancels, IsMachineOf}
use Rattle.sched_run_machine.proofs.Calls.{stands_new}
use Rattle.sched_run_machine.proofs.machine.Machine+Until+Stepper+D.again.Goals as goal

-- one that is cancelled has the driver that it had
kept : {D : Type 0} (grants : Grants D) (m k : Machine (Until Standing) D) → Cancels grants m k → k.driver ≡ m.driver
kept grants m k did =
    by_test (is_some m.over)
    (λ over. ap (λ (n : Machine (Until Standing) _). n.driver) (rw over at did))
    (λ isnt. ap (λ (n : Machine (Until Standing) _). n.driver) (rw isnt at did).1)

-- the one that has done nothing is among those that it may stand for
stands : {D : Type 0} (grants : Grants D) (lawful : Lawful grants) (plan : Schedule) (deadline : Option ℕ)
    (drawing : D) → grants.stands drawing → IsMachineOf (by_until by_stepper) (a_retry false) grants
    (begins grants (unstepped_until plan deadline) drawing) (unbegun grants plan deadline drawing)
stands grants lawful plan deadline drawing holds =
    stands_new (by_until by_stepper) (a_retry false) grants lawful (unstepped_until plan deadline) drawing holds
    (refl, record { in_order = tt; is = refl })

pub returns : goal.returns
returns g c =
    let grants = g.D.Draws.grants in
    let k = c.cancel.new.self in
    let plan = c.args.self.now.driver.driver.plan in
    let same = ap (λ (n : Machine (Until Standing) _). n.driver) c.self.view_is
    ∙ kept grants c.args.self.now k c.cancel.ensures.cancelled in
    let until : c.reset.new.self ≡ unstepped_until plan c.args.deadline =
    (λ i. record {
      driver = (c.reset.ensures.driver ∙ ap (λ (u : Until Standing). standing_after u.driver.plan []) same) i;
      deadline = c.reset.ensures.deadline i;
    }) in
    let drawing : c.self.inside.drawing ≡ k.drawing =
    ap (λ (n : Machine (Until Standing) _). n.drawing) c.self.view_is in
    let begun : record {
      driver = c.reset.new.self;
      under_way = false;
      over = None;
      drawing = c.self.inside.drawing;
      had = c.granted-self-inside.result;
      told = 0;
    } ≡ begins grants (unstepped_until plan c.args.deadline) k.drawing =
    (λ i. record {
      driver = until i;
      under_way = false;
      over = None;
      drawing = drawing i;
      had = (c.granted-self-inside.ensures.granted ∙ ap grants.granted drawing) i;
      told = 0;
    }) in
    record {
      cancelled = k;
      cancels = c.cancel.ensures.cancelled;
      begins_so = begun;
      stands = subst (λ (n : Machine (Until Standing) _). IsMachineOf (by_until by_stepper) (a_retry false) grants n
          (unbegun grants plan c.args.deadline k.drawing)) (sym begun)
          (stands grants g.met.D.Draws.lawful plan c.args.deadline k.drawing
          (subst grants.stands drawing c.granted-self-inside.ensures.stands));
    }

pub invariant_of-self : goal.invariant_of-self
invariant_of-self g c =
    let again = returns g c in (
      unbegun g.D.Draws.grants c.args.self.now.driver.driver.plan c.args.deadline again.cancelled.drawing,
      again.stands,
    )
