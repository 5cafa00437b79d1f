-- `next` keeps the stepper's invariant: what it keeps is the plan's state after the events so far.
use Rattle.std.proofs.Common.{◌≡◌, ℕ, ◌≤◌, List, [], ◌∷◌, ◌++◌, Option, ap, sym, subst, arith}
use Rattle.sched_time.specs.declared.numbers.TheConstants.{FAR}
use Rattle.sched_plan.specs.Schedule.{Schedule}
use Rattle.sched_plan.specs.declared.history.Event.{Event}
use Rattle.sched_step.specs.StateOf.{event_of}
use Rattle.sched_driver_tree.specs.Stepper.{StepGives}
use Rattle.sched_driver_stepper.specs.Standing.{Standing, StandsFor}
use Rattle.sched_driver_stepper.specs.Kept.{IsKeptAfter, KeptFits, KeptSteps, standing_of}
use Rattle.sched_driver_stepper.proofs.Standings.{goes_on, starts_by}
use Rattle.sched_driver_stepper.proofs.steppers.Stepper.next.Goals as goal

pub invariant_of-self-2 : goal.invariant_of-self-2
invariant_of-self-2 c =
    let plan : Schedule = c.self.inside.plan in
    let kept = c.advance.new.self in
    let e : Event = event_of c.args.tick.now c.args.input.now in
    let h : List Event = c.self.invariant.history in
    let same : c.get.result.now ≡ plan = c.get.ensures in
    let floor_is : c.self.inside.floor ≡ c.args.self.now.floor = ap (λ (v : Standing). v.floor) c.self.view_is in
    let later : c.self.inside.floor ≤ e.now = rw floor_is c.in_ok-check_order.ensures.ok in
    let law = subst (λ (p : Schedule). (h : List Event) → IsKeptAfter p h c.self.inside.kept
    → KeptSteps p (h ++ e ∷ []) kept c.in_ok-decision.decision) same c.in_ok-decision.ensures.law in
    let went = goes_on plan c.self.inside.kept c.self.inside.start c.self.inside.floor kept e c.in_ok-decision.decision
    later law h c.self.invariant.stands in
    record {
      history = h ++ e ∷ [];
      stands = subst (λ (start : Option ℕ). StandsFor (standing_of plan kept start e.now) (h ++ e ∷ []))
          (sym c.start-self-inside.ensures) went.stands;
      fits_on = subst (λ (p : Schedule). (later : ℕ) → e.now ≤ later → KeptFits p kept later) same
          c.in_ok-decision.ensures.fits;
      shape = subst (λ (p : Schedule). KeptFits p kept FAR) same c.in_ok-decision.ensures.shape;
    }

pub returns-clause-law : goal.returns-clause-law
returns-clause-law c =
    let plan : Schedule = c.self.inside.plan in
    let kept = c.advance.new.self in
    let e : Event = event_of c.args.tick.now c.args.input.now in
    let d = c.in_ok-decision.decision in
    let same : c.get.result.now ≡ plan = c.get.ensures in
    let floor_is : c.self.inside.floor ≡ c.args.self.now.floor = ap (λ (v : Standing). v.floor) c.self.view_is in
    let later : c.self.inside.floor ≤ e.now = rw floor_is c.in_ok-check_order.ensures.ok in
    let law = subst (λ (p : Schedule). (h : List Event) → IsKeptAfter p h c.self.inside.kept
    → KeptSteps p (h ++ e ∷ []) kept d) same c.in_ok-decision.ensures.law in
    let new : Standing = standing_of plan kept c.start-self-inside.result e.now in
    subst (λ (o : Standing). (h : List Event) → StandsFor o h → StepGives StandsFor o.plan (h ++ e ∷ []) d new)
    c.self.view_is
    (λ h was. subst (λ (start : Option ℕ). StepGives StandsFor plan (h ++ e ∷ []) d
    (standing_of plan kept start e.now))
    (sym c.start-self-inside.ensures)
    (goes_on plan c.self.inside.kept c.self.inside.start c.self.inside.floor kept e d later law h was))

pub returns-clause-start : goal.returns-clause-start
returns-clause-start c =
    let h : List Event = c.self.invariant.history in
    let e : Event = event_of c.args.tick.now c.args.input.now in
    let in_range : e.now ≤ FAR = omega arith in
    let stood = subst (λ (v : Standing). StandsFor v h) c.self.view_is c.self.invariant.stands in
    starts_by c.args.self.now.plan h e c.in_ok-decision.decision in_range (returns-clause-law c h stood).decided
