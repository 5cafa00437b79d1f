-- Which rows that a recursive type is made of threads may read at once.
use denote.RattleType.{RattleType}
use denote.Hole.{as_row}
use denote.Struct.Field.{row_field, usize-field}
use denote.Struct.Tuple.{Tuple}
use mathlib.Core.Path.{◌≡◌}
use mathlib.Core.List.{[], ◌∷◌}
use denote.Param.Send.{IsSync, recorded_sync, sendable}
use denote.Param.SendFields.{as_row_sync}
use denote.Model.Cut.{rejoined, split_one}

pub rejoined_shares : (R : RattleType) (D : Type 0) (split : D → R.Denot) (join : R.Denot → D)
    (e : (d : D) → join (split d) ≡ d) → IsSync R → IsSync (rejoined R D split join e)
rejoined_shares R D split join e = recorded_sync R D split (split_one R D split join e)

pub pair_shares : (R : RattleType) → IsSync R → IsSync (Tuple (R ∷ R ∷ []))
pair_shares R s = search sendable depth 20

pub number_shares : IsSync (as_row usize-field)
number_shares = search sendable depth 20

pub field_shares : (R : RattleType) → IsSync R → IsSync (as_row (row_field R))
field_shares R = as_row_sync (row_field R)
