-- A line has the moment of its event, and the plan's answer to it.
use Rattle.sched_plan_course.proofs.Along.{line_told}
use Rattle.sched_plan_course.proofs.lines.line_at.Goals as goal

pub returns-clause-law : goal.returns-clause-law
returns-clause-law c = λ h is.
    line_told c.args.plan.now h c.args.event c.advance.new.self c.in_ok-answer.answer (c.in_ok-answer.ensures.law h is)
