-- Noting how many requests a window had keeps the quota's rule.
use Rattle.std.proofs.Common.{sym, ap, ◌∙◌, arith}
use mathlib.Core.Option.{none}
use Rattle.atomic_table.specs.Table.{step}
use Rattle.sched_ticket_quota.specs.Held.{Name}
use Rattle.sched_ticket_quota.proofs.Moves.{notes_ok}
use Rattle.sched_ticket_quota.proofs.pass.note.Goals as goal

pub fetch_max-requires : goal.fetch_max-requires
fetch_max-requires c =
    let known = c.quota.invariant in (
      c.requires.of ∙ sym (ap (λ (b : Name). b.table) c.quota.view_is),
      omega arith,
      notes_ok _ _ _ _ (step 0 26 _ 0 none) c.args.window (omega arith) (omega arith),
    )
