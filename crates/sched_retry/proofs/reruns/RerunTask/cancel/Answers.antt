-- A task that gives up keeps its law.
use Rattle.std.proofs.Common.{is_some, refl, sym, ap, ◌∙◌}
use Rattle.sched_task_law.proofs.Fields.{none_of}
use Rattle.sched_run_machine.specs.Machine.{Machine}
use Rattle.sched_run_machine.specs.Retrying.{RetryingOf}
use Rattle.sched_run_machine.proofs.Made.{gives_up_so}
use Rattle.sched_retry.proofs.reruns.RerunTask.cancel.Goals as goal

pub returns-then-is_some : goal.returns-then-is_some
returns-then-is_some g c =
    let over = ap (λ (v : RetryingOf g.row.R.Denot g.row.D.Denot). is_some v.past.over) (sym c.self.view_is)
    ∙ ap is_some (sym c.over.ensures) ∙ sym c.is_some.ensures ∙ c.if-is_some.true in
    rw over refl

pub returns : goal.returns
returns g c =
    let r = c.self.inside in
    let unended = none_of r.machine.over (ap is_some (sym c.over.ensures) ∙ sym c.is_some.ensures ∙ c.if-is_some.false)
    in
    rw (← c.self.view_is) (gives_up_so _ _ g.met.D.Draws.lawful _ r.machine c.cancel.new.self r.runner
    (is_some r.ending) c.self.invariant.0 unended c.cancel.ensures.cancelled).1

pub invariant_of-self : goal.invariant_of-self
invariant_of-self g c =
    let r = c.self.inside in
    let unended = none_of r.machine.over (ap is_some (sym c.over.ensures) ∙ sym c.is_some.ensures ∙ c.if-is_some.false)
    in (
      (gives_up_so _ _ g.met.D.Draws.lawful _ r.machine c.cancel.new.self r.runner (is_some r.ending)
          c.self.invariant.0 unended c.cancel.ensures.cancelled).0,
      ap (λ (m : Machine g.row.R.Denot g.row.D.Denot). m.over) (rw unended at c.cancel.ensures.cancelled).1,
    )
