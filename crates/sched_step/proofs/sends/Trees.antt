-- A tree of kept states may go to another thread: so may what each layer of it holds.
use denote.RattleType.{RattleType}
use denote.Struct.Tuple.{Tuple}
use mathlib.Core.List.{[], ◌∷◌}
use denote.Hole.{as_row}
use denote.Param.Send.{IsSend, view_send, sendable}
use denote.Param.SendFields.{as_row_send, declared_send, variants_send}
use denote.Model.Local.{Parts, rows}
use denote.Model.Goals.{send, All, one_law, has_of, part_has, tied_goals}
use Rattle.std.proofs.Crossing.{Box-send}
use Rattle.sched_plan.proofs.sends.Rows.{rejoined_sends, pair_sends, field_sends}
use Rattle.sched_step.specs.contracts.leaves.LeafState as LeafState
use Rattle.sched_step.specs.contracts.kept.Kept as Kept
use Rattle.sched_step.specs.contracts.turns.Turns as Turns
use Rattle.sched_step.specs.contracts.trees.Tree as Tree
use Rattle.sched_step.specs.contracts.trees.Tree.TheKnot as tree
use Rattle.sched_step.specs.declared.trees.Tree.TheDeep as deep
use Rattle.sched_step.proofs.sends.Kept.{kept_sends}

leaf_sends : IsSend (as_row LeafState.the_field)
leaf_sends = search sendable depth 60 fits 20000

turns_sends : IsSend (as_row Turns.the_field)
turns_sends = search sendable depth 60 fits 20000

module _ (p : Parts tree.frame) (s : IsSend (rows tree.frame p deep.member-Tree)) where
  abbrev R : RattleType
  R = rows tree.frame p deep.member-Tree

  shape_sends : IsSend (tree.at-TreeShape p)
  shape_sends =
      rejoined_sends (tree.layer-TreeShape R R) _ deep.split-TreeShape deep.join-TreeShape deep.joins-TreeShape
      (variants_send (tree.type-TreeShape R R) (
        (field_sends _ leaf_sends, (field_sends _ leaf_sends, tt)),
        (
          (field_sends _ (as_row_send Kept.the_field kept_sends), (field_sends _ (Box-send R s), tt)),
          ((field_sends _ turns_sends, (field_sends _ (Box-send (Tuple (R ∷ R ∷ [])) (pair_sends R s)), tt)), tt),
        ),
      ))

  inside_sends : IsSend (tree.at-Tree p)
  inside_sends = rejoined_sends (tree.layer-Tree (tree.at-TreeShape p)) _ deep.split-Tree deep.join-Tree deep.joins-Tree
      (declared_send (tree.type-Tree (tree.at-TreeShape p)) (field_sends _ shape_sends, tt))

  layer_sends : IsSend (tree.view-Tree p)
  layer_sends = view_send (tree.at-Tree p) _ _ _ _ inside_sends

step_sends : (p : Parts tree.frame) → All (one_law deep.the_members send) (rows tree.frame p)
    → All (one_law deep.the_members send) (rows tree.frame (tree.step p))
step_sends p all deep.member-Tree = has_of tree.frame send (tree.step p) deep.member-Tree
    (part_has send (tree.view-Tree p) (layer_sends p (all deep.member-Tree)))

pub tree_sends : IsSend Tree.the_row
tree_sends = tied_goals tree.frame tree.step tree.sizes (one_law deep.the_members send) step_sends deep.member-Tree
