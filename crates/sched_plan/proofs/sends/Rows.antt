-- Which rows that a recursive type is made of may go to another thread.
use denote.RattleType.{RattleType}
use denote.Hole.{as_row}
use denote.Struct.Field.{row_field, usize-field}
use denote.Struct.Tuple.{Tuple}
use mathlib.Core.Path.{◌≡◌}
use mathlib.Core.List.{[], ◌∷◌}
use denote.Param.Send.{IsSend, recorded_send, sendable}
use denote.Param.SendFields.{as_row_send}
use denote.Model.Cut.{rejoined, split_one}

pub rejoined_sends : (R : RattleType) (D : Type 0) (split : D → R.Denot) (join : R.Denot → D)
    (e : (d : D) → join (split d) ≡ d) → IsSend R → IsSend (rejoined R D split join e)
rejoined_sends R D split join e = recorded_send R D split (split_one R D split join e)

pub pair_sends : (R : RattleType) → IsSend R → IsSend (Tuple (R ∷ R ∷ []))
pair_sends R s = search sendable depth 20

pub number_sends : IsSend (as_row usize-field)
number_sends = search sendable depth 20

pub field_sends : (R : RattleType) → IsSend R → IsSend (as_row (row_field R))
field_sends R = as_row_send (row_field R)
