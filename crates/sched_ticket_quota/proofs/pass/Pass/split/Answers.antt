-- A split keeps the quota's rule.
use Rattle.std.proofs.Common.{sym, ap, ◌∙◌, arith}
use Rattle.sched_ticket_quota.specs.Held.{Name, Held}
use Rattle.sched_ticket_quota.proofs.Parts.{splits_ok}
use Rattle.sched_ticket_quota.proofs.pass.Pass.split.Goals as goal

pub split_seat-seat-requires : goal.split_seat-seat-requires
split_seat-seat-requires c =
    let known = c.quota.invariant in
    let counted = c.self.invariant in (
      ap (λ (p : Held). p.table) c.self.view_is ∙ c.requires.0 ∙ sym (ap (λ (b : Name). b.table) c.quota.view_is),
      omega arith,
      splits_ok _ _ _ (omega arith),
    )
