-- A poll is one of the retry beneath, whose ending is taken, or asks the fallback once.
use Rattle.std.proofs.Common.{is_some, sym, ap, ◌∙◌}
use Rattle.sched_task.specs.Course.{is_ready}
use Rattle.sched_task_law.proofs.Fields.{none_of}
use Rattle.sched_retry_or.specs.Falling.{Falling}
use Rattle.sched_retry_or.specs.Stops.{unless_stop}
use Rattle.sched_retry_or.proofs.Polls.{falling_over, all_ends_retry, beneath_poll, beneath_is}
use Rattle.sched_retry_or.proofs.retry_or.RetryOrTask.poll_at.Goals as goal

pub returns-then-is_some-clause-poll : goal.returns-then-is_some-clause-poll
returns-then-is_some-clause-poll g c =
    falling_over _ _ _ c.args.self.now c.args.tick.now
    (ap (λ (v : Falling g.row.R.Denot g.row.D.Denot). is_some v.over) (sym c.self.view_is) ∙ sym c.is_some.ensures
    ∙ c.if-is_some.true)

pub or_stopped-stopped-requires : goal.or_stopped-stopped-requires
or_stopped-stopped-requires g c =
    all_ends_retry _ g.R.GivesOutput.outputs _ _ _ c.poll_at.new.self c.over-over.ensures.law c.take_ending.result
    c.take_ending.ensures.fits

pub invariant_of-self-2 : goal.invariant_of-self-2
invariant_of-self-2 g c =
    rw (c.unless_stop-self-inside.ensures, c.over-over.ensures.over, c.or_stopped-stopped.ensures)
    (beneath_is _ _ _ _ _ _ _ _
    (none_of c.self.inside.over (sym c.is_some.ensures ∙ c.if-is_some.false)) c.self.invariant c.args.tick.now
    c.in_default.is c.poll_at.new.self c.take_ending.new.self (is_ready c.poll_at.result) c.poll_at.ensures.poll
    c.poll_at.ensures.answers
    c.over-over.ensures.law c.take_ending.result c.take_ending.ensures.taken c.take_ending.ensures.once
    c.take_ending.ensures.fits)

pub returns-clause-poll : goal.returns-clause-poll
returns-clause-poll g c =
    rw (← c.self.view_is)
    (rw (c.unless_stop-self-inside.ensures, c.over-over.ensures.over, c.or_stopped-stopped.ensures)
    (beneath_poll _ _ _ _ _ _ _ _
    (none_of c.self.inside.over (sym c.is_some.ensures ∙ c.if-is_some.false)) c.self.invariant c.args.tick.now
    c.in_default.is c.poll_at.new.self c.take_ending.new.self (is_ready c.poll_at.result) c.poll_at.ensures.poll
    c.poll_at.ensures.answers
    c.over-over.ensures.law c.take_ending.result c.take_ending.ensures.taken c.take_ending.ensures.once
    c.take_ending.ensures.fits (is_ready c.ready_where.result)
    (c.ready_where.ensures ∙ ap is_some (c.unless_stop-self-inside.ensures ∙ ap unless_stop c.over-over.ensures.over))))
