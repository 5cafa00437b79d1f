-- Threads may read a plan at once: so may they what each layer of it holds.
use denote.RattleType.{RattleType}
use denote.Struct.Tuple.{Tuple}
use mathlib.Core.List.{[], ◌∷◌}
use denote.Hole.{as_row}
use denote.Param.Send.{IsSync, view_sync, sendable}
use denote.Param.SendFields.{declared_sync, variants_sync}
use denote.Model.Local.{Parts, rows}
use denote.Model.Goals.{sync, All, one_law, has_of, part_has, tied_goals}
use Rattle.std.proofs.Crossing.{Box-sync}
use Rattle.sched_plan.specs.contracts.leaves.Leaf as Leaf
use Rattle.sched_plan.specs.contracts.nodes.One as One
use Rattle.sched_plan.specs.contracts.nodes.Two as Two
use Rattle.sched_plan.specs.contracts.plans.Plan as Plan
use Rattle.sched_plan.specs.contracts.plans.Plan.TheKnot as plan
use Rattle.sched_plan.specs.declared.plans.Plan.TheDeep as deep
use Rattle.sched_plan.proofs.shares.Rows.{rejoined_shares, pair_shares, number_shares, field_shares}

leaf_shares : IsSync (as_row Leaf.the_field)
leaf_shares = search sendable depth 60 fits 20000

one_shares : IsSync (as_row One.the_field)
one_shares = search sendable depth 60 fits 20000

two_shares : IsSync (as_row Two.the_field)
two_shares = search sendable depth 60

module _ (p : Parts plan.frame) (s : IsSync (rows plan.frame p deep.member-Plan)) where
  abbrev R : RattleType
  R = rows plan.frame p deep.member-Plan

  shape_shares : IsSync (plan.at-PlanShape p)
  shape_shares =
      rejoined_shares (plan.layer-PlanShape R R) _ deep.split-PlanShape deep.join-PlanShape deep.joins-PlanShape
      (variants_sync (plan.type-PlanShape R R) (
        (field_shares _ leaf_shares, tt),
        (
          (field_shares _ one_shares, (field_shares _ (Box-sync R s), tt)),
          ((field_shares _ two_shares, (field_shares _ (Box-sync (Tuple (R ∷ R ∷ [])) (pair_shares R s)), tt)), tt),
        ),
      ))

  inside_shares : IsSync (plan.at-Plan p)
  inside_shares =
      rejoined_shares (plan.layer-Plan (plan.at-PlanShape p)) _ deep.split-Plan deep.join-Plan deep.joins-Plan
      (declared_sync (plan.type-Plan (plan.at-PlanShape p))
      (field_shares _ shape_shares, (field_shares _ number_shares, (field_shares _ number_shares, tt))))

  layer_shares : IsSync (plan.view-Plan p)
  layer_shares = view_sync (plan.at-Plan p) _ _ _ _ inside_shares

step_shares : (p : Parts plan.frame) → All (one_law deep.the_members sync) (rows plan.frame p)
    → All (one_law deep.the_members sync) (rows plan.frame (plan.step p))
step_shares p all deep.member-Plan = has_of plan.frame sync (plan.step p) deep.member-Plan
    (part_has sync (plan.view-Plan p) (layer_shares p (all deep.member-Plan)))

pub plan_shares : IsSync Plan.the_row
plan_shares = tied_goals plan.frame plan.step plan.sizes (one_law deep.the_members sync) step_shares deep.member-Plan
