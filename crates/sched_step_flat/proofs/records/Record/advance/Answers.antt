-- `decide` makes the words and gives the decision of the law, from the words before.
use Rattle.std.proofs.Common.{◌≡◌, ℕ, List, [], ◌∷◌, ◌++◌, length, sym, ap, ◌∙◌, subst}
use Rattle.sched_plan.specs.declared.history.Event.{Event}
use Rattle.sched_step.specs.StateOf.{event_of}
use Rattle.sched_step_flat.specs.FlatStep.{flat_step, unread}
use Rattle.sched_step_flat.specs.Record.{IsDecided}
use Rattle.sched_step_flat.specs.declared.parts.Part.TheVariants.{Unread}
use Rattle.sched_step_flat.proofs.laws.Codes.{refilled}
use Rattle.sched_step_flat.proofs.laws.Law.{record_law}
use Rattle.sched_step_flat.proofs.records.Record.advance.Goals as goal

pub returns-clause-law : goal.returns-clause-law
returns-clause-law c = λ h from.
    let old : List ℕ = c.self.inside.words.items in
    let was : List ℕ = c.as_mut_slice.result.now in
    let new : List ℕ = c.decide.new.words in
    let e : Event = event_of c.args.tick.now c.args.input.now in
    let same : length new ≡ length old = c.decide.auto.words ∙ ap length c.as_mut_slice.ensures.value in
    let step = c.decide.ensures ∙ ap (flat_step c.args.plan.now Unread was) c.cue_of-cue.ensures in
    subst (λ ws. IsDecided c.args.plan.now (h ++ e ∷ []) ws c.decide.result) (sym (refilled old new same))
    (record_law c.args.plan.now c.shape-shape.ensures.valid c.requires.reads was new (unread c.decide.result) e step h
    (c.as_mut_slice.ensures.value ∙ c.self.view_is ∙ from))
