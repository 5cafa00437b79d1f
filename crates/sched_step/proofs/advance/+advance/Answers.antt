-- Each recursive step of the walk gets a state that fits its plan.
use Rattle.std.proofs.Common.{◌≤◌, ◌&&◌, arith}
use Rattle.std.proofs.lemmas.Bool.{and_parts}
use Rattle.sched_time.specs.declared.numbers.TheConstants.{FAR}
use Rattle.sched_plan.specs.declared.nodes.Two.TheVariants.{Follow}
use Rattle.sched_step.specs.Progress.{two_keeps, fits}
use Rattle.sched_step.proofs.laws.Fits.{fits_later}
use Rattle.sched_step.proofs.advance.+advance.Goals as goal

pub advance_follow-restart-requires : goal.advance_follow-restart-requires
advance_follow-restart-requires t c =
    let in_range : c.args.walk.now.tick.now ≤ FAR = omega arith in
    let parts = and_parts (two_keeps Follow _ && fits c.args.plans.now.0 _ c.args.walk.now.tick.now)
    (fits c.args.plans.now.1 _ c.args.walk.now.tick.now) c.requires in
    fits_later c.args.plans.now.1 _ c.args.walk.now.tick.now FAR parts.1 in_range
