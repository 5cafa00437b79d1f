-- A retry that is made has not begun.
use Rattle.std.proofs.Common.{◌≡◌, [], refl, sym, ap, subst, ◌∙◌}
use Rattle.sched_driver_stepper.specs.Standing.{Standing, standing_after}
use Rattle.sched_run_machine.specs.Drives.{Until}
use Rattle.sched_run_machine.specs.Machine.{begins, unbegun}
use Rattle.sched_ticket_draws.specs.Drawing.{drawing_grants}
use Rattle.sched_ticket_draws.specs.declared.drawing.Drawing.{Drawing}
use Rattle.sched_handle.specs.Retries.{Hosted, MayBe}
use Rattle.sched_handle.proofs.retries.fresh.Goals as goal

pub returns : goal.returns
returns c =
    let m : Hosted = c.new-retry.result in
    let plan = c.args.stepper.plan in
    let deadline = c.args.deadline in
    let made = c.new-until.ensures in
    let until : c.new-until.result ≡ (record { driver = standing_after plan []; deadline = deadline }) =
    (λ i. record { driver = (made.driver ∙ c.requires) i; deadline = made.deadline i }) in
    let same : m.drawing ≡ c.args.drawing = ap (λ (m : Hosted). m.drawing) c.new-retry.ensures.begins in (
      m,
      refl,
      same,
      record {
        begins_so = c.new-retry.ensures.begins ∙ (λ i. begins drawing_grants (until i) (sym same i));
        stands = subst (λ (d : Drawing). MayBe m (unbegun drawing_grants plan deadline d)) (sym same)
            (subst (λ (v : Until Standing). MayBe m (unbegun drawing_grants v.driver.plan v.deadline c.args.drawing))
            until
            c.new-retry.ensures.stands);
      },
    )
