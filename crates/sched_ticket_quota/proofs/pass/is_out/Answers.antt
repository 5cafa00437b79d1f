-- Reading how many tickets were handed back keeps the quota's rule.
use Rattle.std.proofs.Common.{sym, ap, ◌∙◌, arith}
use mathlib.Core.Option.{none}
use Rattle.atomic_table.specs.Table.{step}
use Rattle.sched_ticket_quota.specs.Held.{Name}
use Rattle.sched_ticket_quota.proofs.Moves.{recalls_ok}
use Rattle.sched_ticket_quota.proofs.pass.is_out.Goals as goal

pub load-back-requires : goal.load-back-requires
load-back-requires c =
    let known = c.quota.invariant in (
      c.requires.of ∙ sym (ap (λ (b : Name). b.table) c.quota.view_is),
      omega arith,
      recalls_ok _ _ _ _ (step 0 9 0 0 none),
    )
