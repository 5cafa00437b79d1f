-- Reading how many requests the window before had keeps the quota's rule.
use Rattle.std.proofs.Common.{sym, ap, ◌∙◌, arith}
use mathlib.Core.Option.{none}
use Rattle.atomic_table.specs.Table.{step}
use Rattle.sched_ticket_quota.specs.Held.{Name}
use Rattle.sched_ticket_quota.proofs.Moves.{reviews_ok}
use Rattle.sched_ticket_quota.proofs.pass.carried.Goals as goal

pub load-past-requires : goal.load-past-requires
load-past-requires c =
    let known = c.quota.invariant in (
      c.requires.of ∙ sym (ap (λ (b : Name). b.table) c.quota.view_is),
      omega arith,
      reviews_ok _ _ _ _ (step 0 26 0 0 none),
    )
