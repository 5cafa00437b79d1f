-- Each command writes of the text what its own printing writes of the input that it is.
use Rattle.std.proofs.Common.{◌∙◌}
use Rattle.sched_plan_course.specs.Course.{course_of, steady}
use Rattle.sched_cli.proofs.Again.{plan_again, check_again, jobs_again, reads_as_answer, writes_as_answer}
use Rattle.sched_cli.proofs.texts.print_text.Goals as goal

pub returns-in-Plan-clause-text : goal.returns-in-Plan-clause-text
returns-in-Plan-clause-text g c =
    rw (c.in-Plan.is, c.as_answer.ensures)
    (plan_again _ _ _ c.new-reader.ensures _ _ (steady c.in-Plan.options) _
    c.print_plan.ensures.text c.print_plan.ensures.reads)

pub returns-in-Plan-clause-reads : goal.returns-in-Plan-clause-reads
returns-in-Plan-clause-reads g c =
    rw c.as_answer.ensures (c.print_plan.ensures.reads ∙ reads_as_answer c.print_plan.result 0)

pub returns-in-Plan-clause-writes : goal.returns-in-Plan-clause-writes
returns-in-Plan-clause-writes g c =
    rw c.as_answer.ensures (c.print_plan.ensures.writes ∙ writes_as_answer c.print_plan.result _)

pub returns-in-Course-clause-text : goal.returns-in-Course-clause-text
returns-in-Course-clause-text g c =
    rw (c.in-Course.is, c.as_answer-in-Course.ensures)
    (plan_again _ _ _ c.new-reader.ensures _ _ (course_of c.in-Course.course) _
    c.print_course.ensures.text c.print_course.ensures.reads)

pub returns-in-Course-clause-reads : goal.returns-in-Course-clause-reads
returns-in-Course-clause-reads g c =
    rw c.as_answer-in-Course.ensures (c.print_course.ensures.reads ∙ reads_as_answer c.print_course.result 0)

pub returns-in-Course-clause-writes : goal.returns-in-Course-clause-writes
returns-in-Course-clause-writes g c =
    rw c.as_answer-in-Course.ensures (c.print_course.ensures.writes ∙ writes_as_answer c.print_course.result _)

pub returns-in-Check-clause-text : goal.returns-in-Check-clause-text
returns-in-Check-clause-text g c =
    rw (c.in-Check.is, c.as_answer-in-Check.ensures)
    (check_again _ _ _ c.new-reader.ensures _ _ _ c.print_check.ensures.text c.print_check.ensures.reads)

pub returns-in-Check-clause-reads : goal.returns-in-Check-clause-reads
returns-in-Check-clause-reads g c =
    rw c.as_answer-in-Check.ensures (c.print_check.ensures.reads ∙ reads_as_answer c.print_check.result 0)

pub returns-in-Check-clause-writes : goal.returns-in-Check-clause-writes
returns-in-Check-clause-writes g c =
    rw c.as_answer-in-Check.ensures (c.print_check.ensures.writes ∙ writes_as_answer c.print_check.result _)

pub returns-in-Pool-clause-text : goal.returns-in-Pool-clause-text
returns-in-Pool-clause-text g c =
    rw c.in-Pool.is
    (jobs_again _ _ _ c.new-reader.ensures _ _ _ _ _ c.print_pool.ensures.text c.print_pool.ensures.reads)

pub returns-in-Quota-clause-text : goal.returns-in-Quota-clause-text
returns-in-Quota-clause-text g c =
    rw c.in-Quota.is
    (jobs_again _ _ _ c.new-reader.ensures _ _ _ _ _ c.print_quota_pool.ensures.text c.print_quota_pool.ensures.reads)
