-- A step answers the word that it found, where it left the machine's next.
use Rattle.std.proofs.Common.{sym, ap, ◌∙◌, arith}
use mathlib.Core.Option.{none}
use Rattle.atomic_table.specs.Table.{step}
use Rattle.sched_limit_word.specs.declared.view.View.{View}
use Rattle.sched_limit_word.proofs.Names.{table_of, machine_of}
use Rattle.sched_limit_word.proofs.Moves.{looks_ok, tries_ok}
use Rattle.sched_limit_word.proofs.Owned.{may_of}
use Rattle.sched_limit_word.proofs.pass.step.Goals as goal

pub load-word-requires : goal.load-word-requires
load-word-requires g c =
    let known = c.limit.invariant in (
      c.requires.of ∙ sym (table_of _ _ c.limit.view_is),
      omega arith,
      looks_ok _ _ _ _ _ (step 0 8 0 0 none),
    )

pub compare_exchange_with-found-requires : goal.compare_exchange_with-found-requires
compare_exchange_with-found-requires g c =
    let known = c.limit.invariant in
    let before = c.loop.invariant in (
      before.of.0 ∙ c.requires.of ∙ sym (table_of _ _ c.limit.view_is),
      omega arith,
      tries_ok _ _ _ _ _ _ _ _ (omega (arith, c.requires.live, ap (λ (v : View). v.weight) before.same))
          (c.next-next.ensures ∙ sym (ap (λ m. g.M.Machine.next m c.args.call c.loop.word) known.machine_is))
          (may_of g.M.Machine.tokens g.M.Machine.next _ _ _ (known.machine_is ∙ machine_of _ _ c.limit.view_is) _ _
          (ap (λ (v : View). v.moves) before.same) c.requires.may),
    )
