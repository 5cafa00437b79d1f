-- A look tells whether a poll leaves each task as it is.
use Rattle.std.proofs.Common.{sym, ◌∙◌}
use Rattle.sched_task_law.proofs.Fields.{none_of}
use Rattle.sched_run_machine.proofs.Calls.{looks_over, looks}
use Rattle.sched_run_machine.proofs.machine.Machine.stays.Goals as goal

pub returns-then-is_some-clause-looks : goal.returns-then-is_some-clause-looks
returns-then-is_some-clause-looks g c =
    looks_over _ _ _ g.met.D.Draws.lawful
    c.args.self.now c.args.tick.now (rw (← c.self.view_is) (sym c.is_some.ensures ∙ c.if-is_some.true))

pub returns-clause-looks : goal.returns-clause-looks
returns-clause-looks g c =
    looks _ _ _ g.met.D.Draws.lawful c.args.self.now c.args.tick.now c.due.result c.is_later.result
    (rw (← c.self.view_is) (none_of c.self.inside.over (sym c.is_some.ensures ∙ c.if-is_some.false)))
    c.due.ensures c.is_later.ensures
