-- `print_course` writes the lines of the plan that was read, or stops with its fault.
use Rattle.std.proofs.Common.{ℕ, List, Err, subst}
use Rattle.std.proofs.lemmas.Result.{err_from_is_err_and}
use Rattle.sched_plan_course.specs.Course.{course_of}
use Rattle.sched_cli_plan.specs.Printing.{ReadsPlan}
use Rattle.sched_cli_plan.proofs.PrintFaults.{prints_fault}
use Rattle.sched_cli_plan.proofs.printing.print_course.Goals as goal

pub returns-in_err-plan-clause-text : goal.returns-in_err-plan-clause-text
returns-in_err-plan-clause-text g c =
    let p = err_from_is_err_and c.from_residual-in_err-plan.result c.from_residual-in_err-plan.ensures.1 in
    let reads =
    subst (λ (bytes : List ℕ). ReadsPlan bytes (Err c.in_err-plan.field-0.0)) c.deref.ensures.value
    c.in_err-plan.ensures in
    rw (p.1, p.2)
    (prints_fault (course_of c.args.course.now) _ _ _ c.in_ok-bytes.bytes.items c.in_err-plan.field-0.0
    c.in_ok-bytes.ensures.bytes reads)
