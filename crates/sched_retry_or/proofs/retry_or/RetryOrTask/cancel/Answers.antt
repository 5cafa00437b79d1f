-- One that gives up keeps its law.
use Rattle.std.proofs.Common.{is_some, refl, sym, ap, ◌∙◌}
use Rattle.sched_task_law.proofs.Fields.{none_of}
use Rattle.sched_retry_or.specs.Falling.{Falling}
use Rattle.sched_retry_or.proofs.Polls.{gone_is}
use Rattle.sched_retry_or.proofs.retry_or.RetryOrTask.cancel.Goals as goal

pub returns-then-is_some : goal.returns-then-is_some
returns-then-is_some g c =
    let over = ap (λ (v : Falling g.row.R.Denot g.row.D.Denot). is_some v.over) (sym c.self.view_is)
    ∙ sym c.is_some.ensures ∙ c.if-is_some.true in
    rw over refl

pub returns : goal.returns
returns g c =
    let isnt = sym c.is_some.ensures ∙ c.if-is_some.false in
    rw (← c.self.view_is, isnt) (c.cancel.ensures, refl)

pub invariant_of-self : goal.invariant_of-self
invariant_of-self g c =
    gone_is _ _ _ _ _ _ c.self.inside.stopped c.self.inside.ending
    (none_of c.self.inside.over (sym c.is_some.ensures ∙ c.if-is_some.false)) c.self.invariant c.cancel.new.self
    c.cancel.ensures g.met.D.Draws.lawful
