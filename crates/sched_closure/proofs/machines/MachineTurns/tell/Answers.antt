-- A run that is told of is one poll, and ends the calls as it may.
use Rattle.std.proofs.Common.{refl, ◌∙◌}
use Rattle.sched_task_law.specs.Kind.{repeats}
use Rattle.sched_closure.proofs.Ended.{ends_calls}
use Rattle.sched_closure.proofs.machines.MachineTurns.tell.Goals as goal

pub returns-clause-polls : goal.returns-clause-polls
returns-clause-polls g c =
    c.report.ensures.told (c.report.ensures.heard ∙ rw (c.requires.unended, c.requires.running) refl)

pub returns-clause-ends : goal.returns-clause-ends
returns-clause-ends g c =
    rw c.over.ensures (ends_calls (repeats (g.A.Aims.kind g.S.Drives.driving.keeps)) c.args.ran c.report.new.self.over
    (c.report.ensures.ends (c.report.ensures.heard ∙ rw (c.requires.unended, c.requires.running) refl)))
