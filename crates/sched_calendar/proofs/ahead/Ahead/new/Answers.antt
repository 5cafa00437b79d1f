-- A new calendar has rows without keys.
use Rattle.std.proofs.Common.{ap, sym, subst, ◌∙◌, ◌+◌}
use Rattle.sched_calendar.proofs.Rows.{AreEmpty, none_at, one_more}
use Rattle.sched_calendar.proofs.ahead.Ahead.new.Goals as goal

pub loop-init : goal.loop-init
loop-init c = (c.in_ok-rows.ensures.len, subst AreEmpty (sym c.in_ok-rows.ensures.items) none_at)

pub loop-preserved : goal.loop-preserved
loop-preserved c = (
  c.in_ok-push.ensures.len ∙ ap (λ n. n + 1) c.loop.invariant.0,
  subst AreEmpty (sym c.in_ok-push.ensures.items)
      (one_more c.loop.rows.items c.new.result c.loop.invariant.1 c.new.ensures.items),
)
