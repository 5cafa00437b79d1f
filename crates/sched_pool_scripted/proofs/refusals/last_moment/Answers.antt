-- `last_moment` returns the moment of the journal's last event.
use Rattle.std.proofs.Common.{◌-◌, length, ap, arith}
use Rattle.sched_plan.specs.declared.history.Event.{Event}
use Rattle.sched_pool_scripted.proofs.Spread.{last_at}
use Rattle.sched_pool_scripted.proofs.refusals.last_moment.Goals as goal

pub returns : goal.returns
returns c =
    let e = c.index-journal-count.result in
    let h = c.args.journal.now in
    omega (
      arith,
      c.get.ensures.value,
      ap (λ (x : Event). x.now) c.index-journal-count.is,
      last_at h e (length h - 1) (omega (arith, c.if-count-eq0.false)),
    )
