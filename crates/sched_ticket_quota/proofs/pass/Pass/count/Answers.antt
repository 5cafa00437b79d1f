-- Counting a request keeps the quota's rule.
use Rattle.std.proofs.Common.{sym, ap, ◌∙◌, arith}
use mathlib.Core.Option.{none}
use Rattle.atomic_table.specs.Table.{step}
use Rattle.sched_ticket_quota.specs.Held.{Name, Held}
use Rattle.sched_ticket_quota.proofs.Moves.{counts_ok}
use Rattle.sched_ticket_quota.proofs.pass.Pass.count.Goals as goal

pub fetch_add-request-requires : goal.fetch_add-request-requires
fetch_add-request-requires c =
    let known = c.quota.invariant in
    let counted = c.self.invariant in (
      ap (λ (p : Held). p.table) c.self.view_is ∙ c.requires.of.0 ∙ sym (ap (λ (b : Name). b.table) c.quota.view_is),
      omega arith,
      counts_ok _ _ _ _ (step 0 24 _ 0 none) (omega (arith, ap (λ (p : Held). p.has.weight) c.self.view_is))
          (omega arith) (omega arith),
    )
