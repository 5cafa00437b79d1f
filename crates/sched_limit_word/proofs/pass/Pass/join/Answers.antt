-- A join adds the parts of both passes, and joins their moves.
use Rattle.std.proofs.Common.{sym, ◌∙◌, arith}
use mathlib.Core.Option.{none}
use Rattle.atomic_table.specs.Table.{step}
use Rattle.sched_limit_word.proofs.Names.{table_of, table_held}
use Rattle.sched_limit_word.proofs.Moves.{learns_ok}
use Rattle.sched_limit_word.proofs.Parts.{joins_ok}
use Rattle.sched_limit_word.proofs.pass.Pass.join.Goals as goal

pub join_seat-requires : goal.join_seat-requires
join_seat-requires g c =
    let known = c.limit.invariant in
    let counted = c.self.invariant in
    let table = sym (table_of _ _ c.limit.view_is) in (
      table_held _ _ c.self.view_is ∙ c.requires.this ∙ table,
      table_held _ _ c.other.view_is ∙ c.requires.that ∙ table,
      c.other.invariant.bare,
      omega arith,
      joins_ok _ _ _ _ _ _ (omega arith),
    )

pub load-requires : goal.load-requires
load-requires g c =
    let known = c.limit.invariant in (
      c.join_seat.ensures.0 ∙ table_held _ _ c.self.view_is ∙ c.requires.this ∙ sym (table_of _ _ c.limit.view_is),
      omega arith,
      learns_ok _ _ _ _ _ (step 0 8 0 0 none),
    )
