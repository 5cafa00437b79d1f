-- Each turn that is taken out is played, until nothing is due or one call more would be too many.
use Rattle.std.proofs.Common.{subst, ap, ◌∙◌, arith}
use Rattle.sched_storm.specs.Arrivals.{all_requests}
use Rattle.sched_storm.specs.Course.{StandsFirst}
use Rattle.sched_storm.proofs.Ready.{ready, is_cut, is_done, less_of, few_said}
use Rattle.sched_storm.proofs.Moments.{fewer_left}
use Rattle.sched_storm.proofs.Taken.{none_if}
use Rattle.sched_storm.specs.declared.parameters.Parameters.{Parameters}
use Rattle.sched_storm.specs.declared.reporter.Reporter.{Reporter}
use Rattle.sched_storm.proofs.course.Course.run.Goals as goal

pub is_full-requires : goal.is_full-requires
is_full-requires c =
    let first = subst (λ o. StandsFirst c.loop-next.self o) c.in-Some.is c.loop-next.invariant.stands in
    let near = ready c.loop-next.self c.in-Some.turn first in
    let by = near.at in
    let until = near.near in
    omega arith

pub step-requires-clause-first : goal.step-requires-clause-first
step-requires-clause-first c = subst (λ o. StandsFirst c.loop-next.self o) c.in-Some.is c.loop-next.invariant.stands

pub step-requires-clause-room : goal.step-requires-clause-room
step-requires-clause-room c = λ call.
    less_of c.loop-next.self.calls c.loop-next.self.storm.calls c.loop-next.invariant.stands.stands.few_calls
    (c.in_ok-is_full.ensures.no c.if-is_full.false call)

pub returns-then-is_full-clause-over : goal.returns-then-is_full-clause-over
returns-then-is_full-clause-over c =
    let first = subst (λ o. StandsFirst c.loop-next.self o) c.in-Some.is c.loop-next.invariant.stands in
    let yes = c.in_ok-is_full.ensures.yes c.if-is_full.true in
    is_cut c.loop-next.self c.in-Some.turn first yes.0 yes.1

pub returns-clause-over : goal.returns-clause-over
returns-clause-over c =
    is_done c.loop-next.self (subst (λ o. StandsFirst c.loop-next.self o)
    (none_if c.loop-next.next c.in_default.not-Some) c.loop-next.invariant.stands)

pub loop-next-smaller : goal.loop-next-smaller
loop-next-smaller c =
    let few = few_said c.loop-next.self c.loop-next.next c.loop-next.invariant.stands.stands in
    let one = c.in_ok-after.ensures.events in
    let same = ap (λ (r : Reporter). r.events) c.in_ok-next.ensures.events in
    let storm = ap (λ (p : Parameters). p.calls) (c.in_ok-next.ensures.storm ∙ c.in_ok-after.ensures.storm) in
    let kept = c.in_ok-next.ensures.storm ∙ c.in_ok-after.ensures.storm in
    let moments = c.in_ok-next.ensures.arrivals ∙ c.in_ok-after.ensures.arrivals in
    let all = ap (λ ms. all_requests ms c.next_after.new.self.storm) moments
    ∙ ap (λ p. all_requests c.loop-next.self.arrivals.now p) kept in
    fewer_left _ _ _ _ _ _ storm all (same ∙ one) few
