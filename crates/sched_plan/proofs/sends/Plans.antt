-- A plan may go to another thread: so may what each layer of it holds.
use denote.RattleType.{RattleType}
use denote.Struct.Tuple.{Tuple}
use mathlib.Core.List.{[], ◌∷◌}
use denote.Hole.{as_row}
use denote.Param.Send.{IsSend, view_send, sendable}
use denote.Param.SendFields.{declared_send, variants_send}
use denote.Model.Local.{Parts, rows}
use denote.Model.Goals.{send, All, one_law, has_of, part_has, tied_goals}
use Rattle.std.proofs.Crossing.{Box-send}
use Rattle.sched_plan.specs.contracts.leaves.Leaf as Leaf
use Rattle.sched_plan.specs.contracts.nodes.One as One
use Rattle.sched_plan.specs.contracts.nodes.Two as Two
use Rattle.sched_plan.specs.contracts.plans.Plan as Plan
use Rattle.sched_plan.specs.contracts.plans.Plan.TheKnot as plan
use Rattle.sched_plan.specs.declared.plans.Plan.TheDeep as deep
use Rattle.sched_plan.proofs.sends.Rows.{rejoined_sends, pair_sends, number_sends, field_sends}

leaf_sends : IsSend (as_row Leaf.the_field)
leaf_sends = search sendable depth 60 fits 20000

one_sends : IsSend (as_row One.the_field)
one_sends = search sendable depth 60 fits 20000

two_sends : IsSend (as_row Two.the_field)
two_sends = search sendable depth 60

module _ (p : Parts plan.frame) (s : IsSend (rows plan.frame p deep.member-Plan)) where
  abbrev R : RattleType
  R = rows plan.frame p deep.member-Plan

  shape_sends : IsSend (plan.at-PlanShape p)
  shape_sends =
      rejoined_sends (plan.layer-PlanShape R R) _ deep.split-PlanShape deep.join-PlanShape deep.joins-PlanShape
      (variants_send (plan.type-PlanShape R R) (
        (field_sends _ leaf_sends, tt),
        (
          (field_sends _ one_sends, (field_sends _ (Box-send R s), tt)),
          ((field_sends _ two_sends, (field_sends _ (Box-send (Tuple (R ∷ R ∷ [])) (pair_sends R s)), tt)), tt),
        ),
      ))

  inside_sends : IsSend (plan.at-Plan p)
  inside_sends = rejoined_sends (plan.layer-Plan (plan.at-PlanShape p)) _ deep.split-Plan deep.join-Plan deep.joins-Plan
      (declared_send (plan.type-Plan (plan.at-PlanShape p))
      (field_sends _ shape_sends, (field_sends _ number_sends, (field_sends _ number_sends, tt))))

  layer_sends : IsSend (plan.view-Plan p)
  layer_sends = view_send (plan.at-Plan p) _ _ _ _ inside_sends

step_sends : (p : Parts plan.frame) → All (one_law deep.the_members send) (rows plan.frame p)
    → All (one_law deep.the_members send) (rows plan.frame (plan.step p))
step_sends p all deep.member-Plan = has_of plan.frame send (plan.step p) deep.member-Plan
    (part_has send (plan.view-Plan p) (layer_sends p (all deep.member-Plan)))

pub plan_sends : IsSend Plan.the_row
plan_sends = tied_goals plan.frame plan.step plan.sizes (one_law deep.the_members send) step_sends deep.member-Plan
