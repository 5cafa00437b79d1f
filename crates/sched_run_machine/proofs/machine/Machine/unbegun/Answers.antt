-- A machine that has not begun stands for a task that has not.
use Rattle.sched_run_machine.specs.Machine.{unbegun}
use Rattle.sched_run_machine.proofs.Calls.{stands_new}
use Rattle.sched_run_machine.proofs.machine.Machine.unbegun.Goals as goal

pub returns-clause-stands : goal.returns-clause-stands
returns-clause-stands g c =
    rw c.granted-had.ensures.granted (stands_new _ _ _ g.met.D.Draws.lawful
    c.args.driver c.args.drawing c.granted-had.ensures.stands (g.met.R.Drives.begins c.args.driver c.requires.fresh))

pub invariant_of-result : goal.invariant_of-result
invariant_of-result g c =
    rw c.granted-had.ensures.granted (
      unbegun g.D.Draws.grants (g.R.Drives.driving.plan c.args.driver) (g.R.Drives.driving.ends c.args.driver)
          c.args.drawing,
      stands_new _ _ _ g.met.D.Draws.lawful
          c.args.driver c.args.drawing c.granted-had.ensures.stands
          (g.met.R.Drives.begins c.args.driver c.requires.fresh),
    )
