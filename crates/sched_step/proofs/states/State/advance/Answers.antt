-- A step leaves the state after one more event, and answers as the plan does on the whole history.
use Rattle.std.proofs.Common.{◌≡◌, ℕ, ◌≤◌, List, [], ◌∷◌, ◌++◌, IsTrue, sym, ap, subst, ◌∙◌, arith}
use Rattle.sched_time.specs.declared.numbers.TheConstants.{FAR}
use Rattle.sched_plan.specs.Schedule.{Schedule, is_valid}
use Rattle.sched_plan.specs.declared.history.Event.{Event}
use Rattle.sched_plan.specs.declared.history.Answer.{Answer}
use Rattle.sched_step.specs.Progress.{Progress, fits}
use Rattle.sched_step.specs.Starts.{StartsBy}
use Rattle.sched_step.specs.StateOf.{state_of, event_of, IsStep}
use Rattle.sched_step.specs.Step.{step_of}
use Rattle.sched_step.proofs.laws.Law.{step_law}
use Rattle.sched_step.proofs.laws.Starts.{starts_law}
use Rattle.sched_step.proofs.laws.Fits.{fits_law}
use Rattle.sched_step.proofs.states.State.advance.Goals as goal

law_at : (s : Schedule) (p : Progress) (h : List Event) (e : Event) (r : Progress × Answer) →
    IsTrue (is_valid s) → r ≡ step_of s p e → p ≡ state_of s h → IsStep s (h ++ e ∷ []) r.0 r.1
law_at s p h e r valid is from =
    let both = is ∙ ap (λ q. step_of s q e) from ∙ step_law s valid h e in
    record { state_is = ap (λ x. x.0) both; answer_is = ap (λ x. x.1) both }

-- the new state and the answer are those of the step from the old state
stepped : (s : Schedule) (p old next new : Progress) (e : Event) (a : Answer) →
    (next, a) ≡ step_of s old e → old ≡ p → new ≡ next → (new, a) ≡ step_of s p e
stepped s p old next new e a is from to = (λ i. (to i, a)) ∙ is ∙ ap (λ q. step_of s q e) from

pub returns-clause-law : goal.returns-clause-law
returns-clause-law c = λ h from.
    let e = event_of c.args.tick.now c.args.input.now in
    law_at c.args.plan.now c.args.self.now h e (c.commit.new.self.present, _) c.shape-shape.ensures.valid
    (stepped c.args.plan.now c.args.self.now _ _ _ e _ c.in_ok-advance.ensures.step c.self.view_is c.commit.ensures)
    from

pub returns-clause-starts : goal.returns-clause-starts
returns-clause-starts c =
    let in_range : c.args.tick.now.now ≤ FAR = omega arith in
    let e = event_of c.args.tick.now c.args.input.now in
    subst (λ (r : Progress × Answer). StartsBy e.now r.1.decision) (sym c.in_ok-advance.ensures.step)
    (starts_law c.args.plan.now c.self.inside.tree.present e in_range)

fits_at : (s : Schedule) (p : Progress) (e : Event) (r : Progress × Answer) (m : ℕ) → r ≡ step_of s p e →
    IsTrue (fits s p e.now) → e.now ≤ m → IsTrue (fits s r.0 m)
fits_at s p e r m is fitting le =
    subst (λ (r : Progress × Answer). IsTrue (fits s r.0 m)) (sym is) (fits_law s p e m fitting le)

pub returns-clause-fits : goal.returns-clause-fits
returns-clause-fits c = λ later after.
    let e = event_of c.args.tick.now c.args.input.now in
    fits_at c.args.plan.now c.args.self.now e (c.commit.new.self.present, _) later
    (stepped c.args.plan.now c.args.self.now _ _ _ e _ c.in_ok-advance.ensures.step c.self.view_is c.commit.ensures)
    c.requires after

pub returns-clause-shape : goal.returns-clause-shape
returns-clause-shape c =
    let in_range : c.args.tick.now.now ≤ FAR = omega arith in
    let e = event_of c.args.tick.now c.args.input.now in
    fits_at c.args.plan.now c.args.self.now e (c.commit.new.self.present, _) FAR
    (stepped c.args.plan.now c.args.self.now _ _ _ e _ c.in_ok-advance.ensures.step c.self.view_is c.commit.ensures)
    c.requires in_range
