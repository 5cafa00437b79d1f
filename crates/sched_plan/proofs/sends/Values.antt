-- A value may go to another thread: so may what each layer of it holds.
use denote.RattleType.{RattleType}
use denote.Hole.{as_row}
use denote.Struct.Tuple.{Tuple}
use mathlib.Core.List.{[], ◌∷◌}
use denote.Param.Send.{IsSend, view_send, sendable}
use denote.Param.SendFields.{declared_send, variants_send}
use denote.Model.Local.{Parts, rows}
use denote.Model.Goals.{send, All, one_law, has_of, part_has, tied_goals}
use Rattle.std.proofs.Crossing.{Box-send, Vec-send}
use Rattle.sched_time.specs.contracts.numbers.Millis as Millis
use Rattle.sched_plan.specs.contracts.values.Val as Val
use Rattle.sched_plan.specs.contracts.values.Val.TheKnot as val
use Rattle.sched_plan.specs.declared.values.Val.TheDeep as deep
use Rattle.sched_plan.proofs.sends.Rows.{rejoined_sends, pair_sends, field_sends}

millis_sends : IsSend (as_row Millis.the_field)
millis_sends = search sendable depth 20

module _ (p : Parts val.frame) (s : IsSend (rows val.frame p deep.member-Val)) where
  abbrev R : RattleType
  R = rows val.frame p deep.member-Val

  shape_sends : IsSend (val.at-ValShape p)
  shape_sends = rejoined_sends (val.layer-ValShape R R) _ deep.split-ValShape deep.join-ValShape deep.joins-ValShape
      (variants_send (val.type-ValShape R R) (
        tt,
        (
          (field_sends _ millis_sends, tt),
          (
            (field_sends _ (Box-send (Tuple (R ∷ R ∷ [])) (pair_sends R s)), tt),
            ((field_sends _ (Vec-send R s), tt), tt),
          ),
        ),
      ))

  inside_sends : IsSend (val.at-Val p)
  inside_sends = rejoined_sends (val.layer-Val (val.at-ValShape p)) _ deep.split-Val deep.join-Val deep.joins-Val
      (declared_send (val.type-Val (val.at-ValShape p)) (field_sends _ shape_sends, tt))

  layer_sends : IsSend (val.view-Val p)
  layer_sends = view_send (val.at-Val p) _ _ _ _ inside_sends

step_sends : (p : Parts val.frame) → All (one_law deep.the_members send) (rows val.frame p)
    → All (one_law deep.the_members send) (rows val.frame (val.step p))
step_sends p all deep.member-Val = has_of val.frame send (val.step p) deep.member-Val
    (part_has send (val.view-Val p) (layer_sends p (all deep.member-Val)))

pub val_sends : IsSend Val.the_row
val_sends = tied_goals val.frame val.step val.sizes (one_law deep.the_members send) step_sends deep.member-Val
