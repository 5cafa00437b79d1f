-- The rounds of a history: runs of events that lie close together.
use Rattle.std.specs.Prelude.{ℕ, zero, suc, ◌-◌, Bool, true, ◌&&◌, nat_lt, List, [], ◌∷◌, length, take_while, find}
use Rattle.std.specs.Prelude.{unwrap_or}
use Rattle.sched_plan.specs.declared.history.Event.{Event}

-- whether the event comes less than d after this moment
abbrev pub is_within : ℕ → ℕ → Event → Bool
is_within d moment e = nat_lt (e.now - moment) d

-- The blocks of the history, where the first k events are passed over since an earlier block has them. A block is its
-- first event and the longest run of events after it that come less than d after that first one.
abbrev pub blocks_past : ℕ → ℕ → List Event → List (List Event)
blocks_past d k [] = []
blocks_past d (suc k) (e ∷ h) = blocks_past d k h
blocks_past d zero (e ∷ h) =
    (e ∷ take_while (is_within d e.now) h) ∷ blocks_past d (length (take_while (is_within d e.now) h)) h

-- the whole history, cut from the front into blocks
abbrev pub blocks : ℕ → List Event → List (List Event)
blocks d h = blocks_past d 0 h

-- the last of these histories, or the empty one where there is none
abbrev pub last_history : List (List Event) → List Event
last_history [] = []
last_history (b ∷ []) = b
last_history (b ∷ c ∷ bs) = last_history (c ∷ bs)

-- the block that the history ends with
abbrev pub last_block : ℕ → List Event → List Event
last_block d h = last_history (blocks d h)

-- the nonempty suffixes, longest first
abbrev pub suffixes : List Event → List (List Event)
suffixes [] = []
suffixes (e ∷ h) = (e ∷ h) ∷ suffixes h

-- whether each event but the first comes less than d after the event before it
abbrev pub is_close : ℕ → List Event → Bool
is_close d [] = true
is_close d (e ∷ []) = true
is_close d (e ∷ c ∷ h) = is_within d e.now c && is_close d (c ∷ h)

-- the longest suffix in which each event but the first comes less than d after the event before it
abbrev pub last_run : ℕ → List Event → List Event
last_run d h = unwrap_or (find (is_close d) (suffixes h)) []
