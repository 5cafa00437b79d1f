-- A report that is heard ends the run under way.
use Rattle.std.proofs.Common.{◌≡◌, true, sym, ◌∙◌}
use Rattle.sched_task_law.proofs.Fields.{none_of}
use Rattle.sched_run_machine.proofs.Calls.{can_end, running_in_time}
use Rattle.sched_run_machine.proofs.machine.Machine.report.Goals as goal

pub finish-requires : goal.finish-requires
finish-requires g c =
    let running : c.args.self.now.under_way ≡ true = rw (← c.self.view_is) c.if-not-self.false in record {
      looks = can_end _ _ _ g.met.D.Draws.lawful
          c.args.self.now c.args.tick.now
          (rw (← c.self.view_is) (none_of c.self.inside.over (sym c.is_some.ensures ∙ c.if-is_some.false))) running;
      in_time = running_in_time (g.R.Drives.driving.ends c.args.self.now.driver) c.args.self.now c.args.tick.now.now
          running;
    }
