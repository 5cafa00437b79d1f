-- The lines are those of the plan's answers along the course.
use Rattle.std.proofs.Common.{◌≡◌, sym, ◌∙◌, ap, arith, ◌++◌, ◌∷◌, []}
use Rattle.sched_plan_course.specs.Course.{course_of}
use Rattle.sched_plan_course.specs.Run.{run}
use Rattle.sched_plan_course.specs.Lines.{lines_of}
use Rattle.sched_plan_course.proofs.Along.{along_init, lines_next, ended, goes_on}
use Rattle.sched_plan_course.proofs.lines.course_lines.Goals as goal

pub loop-number-init : goal.loop-number-init
loop-number-init c = record {
  along =
      along_init c.args.plan.now
      (course_of c.args.course.now) c.first-now.result c.in_ok-state.state c.first-now.ensures
      c.in_ok-state.ensures.value (c.in_ok-state.ensures.fits c.first-now.result);
  told = c.new-lines.ensures.items;
}

pub loop-number-preserved : goal.loop-number-preserved
loop-number-preserved c = record {
  along =
      goes_on c.args.plan.now
      (course_of c.args.course.now) c.loop-number.number c.loop-number.now c.event.result c.loop-number.state
      c.line_at.new.state c.in_ok-line.line c.loop-number.invariant.along c.event.ensures c.in_ok-line.ensures.law
      c.in-Some.start c.after-now.result
      (sym c.in-Some.is ∙ c.start-start.ensures) c.after-now.ensures c.in_ok-line.ensures.starts
      c.in_ok-line.ensures.in_range c.in_ok-line.ensures.fits;
  told =
      c.in_ok-push.ensures.items ∙ ap (λ ls. ls ++ c.in_ok-line.line ∷ []) c.loop-number.invariant.told
      ∙ lines_next c.args.plan.now
      (course_of c.args.course.now) c.loop-number.number c.loop-number.now c.event.result c.loop-number.state
      c.line_at.new.state c.in_ok-line.line c.loop-number.invariant.along c.event.ensures c.in_ok-line.ensures.law;
}

pub returns-in_default : goal.returns-in_default
returns-in_default c =
    c.in_ok-push.ensures.items ∙ ap (λ ls. ls ++ c.in_ok-line.line ∷ []) c.loop-number.invariant.told
    ∙ lines_next c.args.plan.now
    (course_of c.args.course.now) c.loop-number.number c.loop-number.now c.event.result c.loop-number.state
    c.line_at.new.state c.in_ok-line.line c.loop-number.invariant.along c.event.ensures c.in_ok-line.ensures.law
    ∙ ended c.args.plan.now
    (course_of c.args.course.now) c.loop-number.number c.loop-number.now c.event.result c.loop-number.state
    c.line_at.new.state c.in_ok-line.line c.loop-number.invariant.along c.event.ensures c.in_ok-line.ensures.law
    (omega arith)
    (sym c.in_default.is ∙ c.start-start.ensures)

pub returns : goal.returns
returns c =
    let all : c.loop-number.number ≡ (course_of c.args.course.now).steps = omega arith in
    c.loop-number.invariant.told
    ∙ ap (λ n. lines_of c.args.plan.now (run c.args.plan.now (course_of c.args.course.now) n)) all
