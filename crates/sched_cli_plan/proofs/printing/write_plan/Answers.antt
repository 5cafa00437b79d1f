-- What was written when `write_plan` stops is a front of the plan's lines.
use Rattle.std.proofs.Common.{◌∙◌, subst, sym, arith}
use Rattle.std.proofs.lemmas.Result.{err_from_is_err_and}
use Rattle.sched_plan_course.specs.Course.{course_of}
use Rattle.sched_cli_plan.specs.PlanText.{plan_text}
use Rattle.sched_cli_plan.specs.Whole.{WritesAllBut}
use Rattle.sched_cli_plan.proofs.Written.{closes}
use Rattle.sched_cli_plan.proofs.PrintSteps.{nothing_written, stopped, finished, goes_on, all_steps, stopped_in_line}
use Rattle.sched_cli_plan.proofs.printing.write_plan.Goals as goal

pub returns-in_err-state-clause-text : goal.returns-in_err-state-clause-text
returns-in_err-state-clause-text g c =
    let p = err_from_is_err_and c.from_residual.result c.from_residual.ensures.1 in
    rw (p.1, p.2)
    (nothing_written (g.W.Sink.taken c.args.writer.now) (plan_text c.args.plan.now (course_of c.args.course.now)))

pub returns-in_err-line-clause-text : goal.returns-in_err-line-clause-text
returns-in_err-line-clause-text g c =
    let p = err_from_is_err_and c.from_residual-in_err-line.result c.from_residual-in_err-line.ensures.1 in
    rw (p.1, p.2)
    (stopped c.args.plan.now
    (course_of c.args.course.now) c.loop-number.number c.loop-number.now c.loop-number.state _ _ _
    c.loop-number.invariant.printed (omega arith))

pub returns-in_err-add_line-clause-text : goal.returns-in_err-add_line-clause-text
returns-in_err-add_line-clause-text g c =
    let p = err_from_is_err_and c.from_residual-in_err-add_line.result c.from_residual-in_err-add_line.ensures.1 in
    rw (p.1, p.2)
    (stopped c.args.plan.now
    (course_of c.args.course.now) c.loop-number.number c.loop-number.now c.loop-number.state _ _ _
    c.loop-number.invariant.printed (omega arith))

pub returns-in_default-clause-text : goal.returns-in_default-clause-text
returns-in_default-clause-text g c =
    closes _ _ _ c.as_bytes.result.now
    (finished c.args.plan.now
    (course_of c.args.course.now) c.loop-number.number c.loop-number.now c.event.result c.loop-number.state
    c.line_at.new.state c.in_ok-line.line _ _ _ _ c.loop-number.invariant.printed c.event.ensures
    c.in_ok-line.ensures.law
    (c.as_bytes.ensures.value ∙ c.in_ok-add_line.ensures) (omega arith) c.in_default.ensures)
    _ c.put_all.result c.put_all.ensures.bytes

pub returns-in_err-put_long-clause-text : goal.returns-in_err-put_long-clause-text
returns-in_err-put_long-clause-text g c =
    let p = err_from_is_err_and c.from_residual-in_err-put_long.result c.from_residual-in_err-put_long.ensures.1 in
    rw (p.1, p.2)
    (stopped_in_line c.args.plan.now
    (course_of c.args.course.now) c.loop-number.number c.loop-number.now c.event.result c.loop-number.state
    c.line_at.new.state c.in_ok-line.line _ _ _ _ c.loop-number.invariant.printed c.event.ensures
    c.in_ok-line.ensures.law
    c.in_ok-add_line.ensures _ c.in_err-put_long.field-0.0 (omega arith) c.in_err-put_long.ensures.bytes)

pub loop-number-preserved : goal.loop-number-preserved
loop-number-preserved g c = record {
  printed =
      goes_on c.args.plan.now
      (course_of c.args.course.now) c.loop-number.number c.loop-number.now c.event.result c.loop-number.state
      c.line_at.new.state c.in_ok-line.line _ _ _ _ c.loop-number.invariant.printed c.event.ensures
      c.in_ok-line.ensures.law
      c.in_ok-add_line.ensures _ _ c.in-Some.start c.after-now.result c.in_ok-put_long.ensures.bytes c.in-Some.ensures
      c.after-now.ensures c.in_ok-line.ensures.starts c.in_ok-line.ensures.in_range c.in_ok-line.ensures.fits;
  counts = c.in_ok-put_long.ensures.counts ∙ c.loop-number.invariant.counts;
}

pub returns-clause-text : goal.returns-clause-text
returns-clause-text g c =
    closes _ _ _ c.as_bytes-2.result.now
    (subst (WritesAllBut _ _ _) (sym c.as_bytes-2.ensures.value)
    (all_steps c.args.plan.now
    (course_of c.args.course.now) c.loop-number.number c.loop-number.now c.loop-number.state _ _ _
    c.loop-number.invariant.printed (omega arith)))
    _ c.put_all-2.result c.put_all-2.ensures.bytes
