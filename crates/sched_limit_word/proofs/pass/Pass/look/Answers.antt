-- A look reads the word of the pass's own limit.
use Rattle.std.proofs.Common.{sym, ◌∙◌, arith}
use mathlib.Core.Option.{none}
use Rattle.atomic_table.specs.Table.{step}
use Rattle.sched_limit_word.proofs.Names.{table_of, table_held}
use Rattle.sched_limit_word.proofs.Moves.{looks_ok}
use Rattle.sched_limit_word.proofs.pass.Pass.look.Goals as goal

pub load-requires : goal.load-requires
load-requires g c =
    let known = c.limit.invariant in
    let counted = c.self.invariant in (
      table_held _ _ c.self.view_is ∙ c.requires ∙ sym (table_of _ _ c.limit.view_is),
      omega arith,
      looks_ok _ _ _ _ _ (step 0 8 0 0 none),
    )
