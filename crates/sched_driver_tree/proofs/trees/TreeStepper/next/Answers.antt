-- `next` keeps the stepper's invariant: its state is that of the events so far.
use Rattle.std.proofs.Common.{◌≡◌, ℕ, ◌≤◌, List, [], ◌∷◌, ◌++◌, Some, IsTrue, ap, subst}
use Rattle.sched_time.specs.declared.numbers.TheConstants.{FAR}
use Rattle.sched_plan.specs.Schedule.{Schedule}
use Rattle.sched_plan.specs.declared.history.Event.{Event}
use Rattle.sched_step.specs.Progress.{fits}
use Rattle.sched_step.specs.StateOf.{event_of}
use Rattle.sched_driver_tree.specs.Standing.{TreeStanding, TreeStandsFor}
use Rattle.sched_driver_tree.specs.Stepper.{StepGives}
use Rattle.sched_driver_tree.proofs.Standings.{goes_on}
use Rattle.sched_driver_tree.proofs.trees.TreeStepper.next.Goals as goal

pub invariant_of-self-2 : goal.invariant_of-self-2
invariant_of-self-2 c =
    let v : TreeStanding = record {
      plan = c.self.inside.plan;
      state = c.self.inside.state;
      last = c.self.inside.last;
      floor = c.self.inside.floor;
    } in
    let e = event_of c.args.tick.now c.args.input.now in
    let h = c.self.invariant.history in
    let same : c.get.result.now ≡ v.plan = c.get.ensures in
    let floor_is : v.floor ≡ c.args.self.now.floor = ap (λ (v : TreeStanding). v.floor) c.self.view_is in
    let later : v.floor ≤ e.now = rw floor_is c.in_ok-check_order.ensures.ok in
    record {
      history = h ++ e ∷ [];
      stands = (goes_on v c.get.result.now e c.advance.new.self c.in_ok-answer.answer same later
          c.in_ok-answer.ensures.law h c.self.invariant.stands).stands;
      fits_on = subst (λ (p : Schedule). (later : ℕ) → e.now ≤ later → IsTrue (fits p c.advance.new.self later)) same
          c.in_ok-answer.ensures.fits;
      shape = subst (λ (p : Schedule). IsTrue (fits p c.advance.new.self FAR)) same c.in_ok-answer.ensures.shape;
    }

pub returns-clause-law : goal.returns-clause-law
returns-clause-law c =
    let v : TreeStanding = record {
      plan = c.self.inside.plan;
      state = c.self.inside.state;
      last = c.self.inside.last;
      floor = c.self.inside.floor;
    } in
    let new : TreeStanding = record {
      plan = c.self.inside.plan;
      state = c.advance.new.self;
      last = Some c.in_ok-answer.answer;
      floor = c.args.tick.now.now;
    } in
    let e = event_of c.args.tick.now c.args.input.now in
    let same : c.get.result.now ≡ v.plan = c.get.ensures in
    let floor_is : v.floor ≡ c.args.self.now.floor = ap (λ (v : TreeStanding). v.floor) c.self.view_is in
    let later : v.floor ≤ e.now = rw floor_is c.in_ok-check_order.ensures.ok in
    subst (λ (o : TreeStanding). (h : List Event) → TreeStandsFor o h
    → StepGives TreeStandsFor o.plan (h ++ e ∷ []) c.in_ok-answer.answer.decision new)
    c.self.view_is
    (goes_on v c.get.result.now e c.advance.new.self c.in_ok-answer.answer same later c.in_ok-answer.ensures.law)
