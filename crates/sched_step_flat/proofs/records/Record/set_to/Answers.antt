-- The words are those of the other record.
use Rattle.std.proofs.Common.{◌≡◌, ℕ, List, length, ap, ◌∙◌}
use Rattle.sched_step_flat.proofs.laws.Codes.{refilled}
use Rattle.sched_step_flat.proofs.records.Record.set_to.Goals as goal

pub returns-clause-value : goal.returns-clause-value
returns-clause-value c =
    let old : List ℕ = c.self.inside.words.items in
    let new : List ℕ = c.copy_from_slice.new.self in
    let same : length new ≡ length old = c.copy_from_slice.ensures.len ∙ ap length c.as_mut_slice.ensures.value in
    refilled old new same ∙ c.copy_from_slice.ensures.after ∙ c.as_slice.ensures ∙ c.other.view_is
