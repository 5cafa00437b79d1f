-- All inputs are in range exactly where none is past the greatest number.
use Rattle.std.proofs.Common.{◌≡◌, take, refl, subst}
use Rattle.std.specs.List.{All}
use Rattle.std.proofs.lemmas.List.{take_all}
use Rattle.std.proofs.lemmas.List.Elements.{All-more}
use Rattle.hikebox_c.specs.Courses.{InputIsInRange}
use Rattle.hikebox_c.proofs.courses.inputs_are_in_range.Goals as goal

pub loop-event-preserved : goal.loop-event-preserved
loop-event-preserved c =
    All-more InputIsInRange c.args.events.now c.loop-event.event-index _ c.loop-event-test.true c.loop-event.invariant
    c.if-event-gt-FAR.false

pub returns : goal.returns
returns c =
    let whole : take c.loop-event.event-index c.args.events.now ≡ c.args.events.now =
    take_all c.loop-event.event-index c.args.events.now c.loop-event-test.false in
    (λ _. subst (All InputIsInRange) whole c.loop-event.invariant, λ _. refl)
