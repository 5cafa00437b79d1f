-- New terms keep the quota's rule.
use Rattle.std.proofs.Common.{sym, ap, ◌∙◌, arith}
use mathlib.Core.Option.{none}
use Rattle.atomic_table.specs.Table.{step}
use Rattle.sched_ticket_quota.specs.Held.{Name, Held}
use Rattle.sched_ticket_quota.proofs.Moves.{changes_ok}
use Rattle.sched_ticket_quota.proofs.pass.Pass.set_terms.Goals as goal

pub store-requires : goal.store-requires
store-requires c =
    let known = c.quota.invariant in
    let counted = c.self.invariant in (
      ap (λ (p : Held). p.table) c.self.view_is ∙ c.requires.0 ∙ sym (ap (λ (b : Name). b.table) c.quota.view_is),
      omega arith,
      changes_ok _ _ _ _ (step 0 25 c.word_of-word.result 0 none) c.word_of-word.result (omega arith),
    )
