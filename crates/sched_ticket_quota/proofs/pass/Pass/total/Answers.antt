-- Reading the total keeps the quota's rule.
use Rattle.std.proofs.Common.{sym, ap, ◌∙◌, arith}
use mathlib.Core.Option.{none}
use Rattle.atomic_table.specs.Table.{step}
use Rattle.sched_ticket_quota.specs.Held.{Name, Held}
use Rattle.sched_ticket_quota.proofs.Moves.{learns_ok}
use Rattle.sched_ticket_quota.proofs.pass.Pass.total.Goals as goal

pub load-requires : goal.load-requires
load-requires c =
    let known = c.quota.invariant in (
      ap (λ (p : Held). p.table) c.self.view_is ∙ c.requires.0 ∙ sym (ap (λ (b : Name). b.table) c.quota.view_is),
      omega arith,
      learns_ok _ _ _ _ (step 0 8 0 0 none),
    )
