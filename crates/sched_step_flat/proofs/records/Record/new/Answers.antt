-- The words are those before the first event.
use Rattle.std.proofs.Common.{◌≡◌, ℕ, List, length, ap, ◌∙◌}
use Rattle.sched_step_flat.proofs.laws.Codes.{blank_is, refilled}
use Rattle.sched_step_flat.proofs.records.Record.new.Goals as goal

pub returns-clause-value : goal.returns-clause-value
returns-clause-value c =
    let old : List ℕ = c.resize.new.self.items in
    let new : List ℕ = c.reset.new.words in
    let same : length new ≡ length old = c.reset.auto.words ∙ ap length c.as_mut_slice.ensures.value in
    refilled old new same ∙ c.reset.ensures ∙ blank_is c.args.plan.now
