-- A split halves a pass's parts, or refuses where there is one.
use Rattle.std.proofs.Common.{sym, ◌∙◌, arith}
use Rattle.sched_limit_word.proofs.Names.{table_of, table_held}
use Rattle.sched_limit_word.proofs.Parts.{splits_ok}
use Rattle.sched_limit_word.proofs.pass.Pass.split.Goals as goal

pub split_seat-seat-requires : goal.split_seat-seat-requires
split_seat-seat-requires g c =
    let known = c.limit.invariant in
    let counted = c.self.invariant in (
      table_held _ _ c.self.view_is ∙ c.requires ∙ sym (table_of _ _ c.limit.view_is),
      omega arith,
      splits_ok _ _ _ _ (omega arith),
    )
