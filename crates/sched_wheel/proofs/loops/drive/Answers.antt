-- Each turn of the loop is one more poll of the course, also the one that ends it.
use Rattle.std.proofs.Common.{rules, ◌≡◌, false, arith}
use Rattle.std.proofs.lemmas.Result.{IfOk-weaker}
use Rattle.sched_wheel.proofs.Polls.{course_then, course_within}
use Rattle.sched_wheel.proofs.loops.drive.Goals as goal

pub returns-in_err-take_turn-clause-polled : goal.returns-in_err-take_turn-clause-polled
returns-in_err-take_turn-clause-polled g c =
    course_then _ _ _ _ _ c.loop-used.used 1 _ _ _ _ (omega arith) c.loop-used.invariant.1 c.take_turn.ensures.polled

pub returns-then-not-branch-clause-polled : goal.returns-then-not-branch-clause-polled
returns-then-not-branch-clause-polled g c =
    course_then _ _ _ _ _ c.loop-used.used 1 _ _ _ _ (omega arith) c.loop-used.invariant.1 c.take_turn.ensures.polled

pub returns-then-not-branch-clause-used : goal.returns-then-not-branch-clause-used
returns-then-not-branch-clause-used g c =
    let none : c.in_ok-take_turn.field-0 ≡ false = search rules in
    let course = course_then _ _ _ _ _ c.loop-used.used 0 c.loop-used.used _ _ _ (omega arith) c.loop-used.invariant.1
    (c.in_ok-take_turn.ensures.none none) in
    IfOk-weaker c.finished.result _ _
    (λ answer same. course_within _ _ _ _ _ c.loop-used.used answer _ _ (omega (arith, same)) course)
    c.finished.ensures.turns

pub loop-used-preserved : goal.loop-used-preserved
loop-used-preserved g c = (
  c.take_turn.ensures.count,
  course_then _ _ _ _ _ c.loop-used.used 1 _ _ _ _ (omega arith) c.loop-used.invariant.1 c.take_turn.ensures.polled,
)
