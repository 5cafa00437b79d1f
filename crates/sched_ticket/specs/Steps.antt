-- What each kind of atomic step tells the pass that makes it: of the seat before, the number found and the seat after.
use Rattle.std.specs.Prelude.{◌≡◌, ◌≢◌, ℕ, ◌+◌, ◌<◌, ◌≤◌, false, length, max}
use Rattle.atomic_table.specs.Table.{Me, Step}
use Rattle.sched_ticket.specs.Lists.{Each, times}
use Rattle.sched_ticket.specs.Whole.{IsWhole, IsOneOfSeveral}
use Rattle.sched_ticket.specs.View.{with_ticket, with_refusal, with_found, with_floor, with_raise, with_mark}
use Rattle.sched_ticket.specs.View.{with_refused_split, with_part}
use Rattle.sched_ticket.specs.declared.view.Mark.TheVariants.{Sole, Shared}
use Rattle.sched_ticket.specs.declared.view.View.{View}

-- a seat's view, and the slots that it holds, of which a budget has none
abbrev pub Sat : Type 0
Sat = Me ℕ View

abbrev pub Then : Type 1
Then = Step ℕ → Sat → ℕ → Sat → Type 0

-- the seat has this view now, and all else as before
abbrev pub Sees : Sat → Sat → View → Type 0
Sees m n v = n ≡ (v, m.1)

-- the number comes after all tickets of the pass
abbrev pub IsLater : View → ℕ → Type 0
IsLater v k = Each (λ t. t < k) v.tickets × (length v.tickets ≤ k)

abbrev pub draws : Then
draws s m k n =
    IsLater m.0 k × (k < m.0.floor → Sees m n (with_ticket m.0 k)) × (m.0.floor ≤ k → Sees m n (with_refusal m.0 k))

-- the pass has found so many draws made, and is refused where they are not below its floor
abbrev pub IsTold : Sat → ℕ → Sat → Type 0
IsTold m k n = (k < m.0.floor → Sees m n (with_found m.0 k)) × (m.0.floor ≤ k → Sees m n (with_refusal m.0 k))

abbrev pub finds : Then
finds s m k n = (m.0.found ≤ k) × IsTold m k n

abbrev pub wins : Then
wins s m k n =
    (k ≡ s.first → IsLater m.0 k × Sees m n (with_ticket m.0 k))
    × (k ≢ s.first → (m.0.found < k) × IsTold m k n)

abbrev pub counts : Then
counts s m made n =
    (made < 65536 → Sees m n (with_part m.0)) × (65536 ≤ made → Sees m n (with_refused_split m.0))

-- a pass's tickets never pass the limit: that of a budget that keeps its limit, else the greatest that the pass has
-- found
pub record IsWithin (v : View) : Type 0 where
  pub few : length v.tickets ≤ v.floor
  pub fixed : v.terms.rises ≡ false → v.floor ≡ v.terms.limit

-- what holds of a pass's tickets and weight, whatever was joined into it
pub record IsSound (v : View) : Type 0 where
  pub once : (x : ℕ) → times x v.tickets ≤ 1
  pub small : Each (λ t. t < 4294967296) v.tickets
  pub few_tickets : length v.tickets ≤ 4294967296
  pub few_passes : v.terms.by_parts ≡ false → v.weight ≤ 65536
  pub few_parts : v.weight ≤ 4611686018427387904
  pub within : IsWithin v

abbrev pub learns : Then
learns s m found n = (n ≡ m) × IsSound m.0

-- a pass that stands for all that were made is the whole, and another is one of several
abbrev pub looks : Then
looks s m made n =
    (made ≡ m.0.weight + m.0.refused_splits → Sees m n (with_mark m.0 Sole) × IsWhole m.0.terms m.0)
    × (made ≢ m.0.weight + m.0.refused_splits → Sees m n (with_mark m.0 Shared) × IsOneOfSeveral m.0.terms m.0)

-- a limit that a pass finds is none below its floor, and the first one where the budget keeps its limit
pub record IsLimit (v : View) (limit : ℕ) : Type 0 where
  pub rises : v.floor ≤ limit
  pub fixed : v.terms.rises ≡ false → limit ≡ v.terms.limit
  pub small : limit ≤ 4294967296

abbrev pub reads_limit : Then
reads_limit s m limit n = IsLimit m.0 limit × Sees m n (with_floor m.0 limit)

abbrev pub raises : Then
raises s m before n =
    let limit = max before s.first in IsLimit m.0 limit × Sees m n (with_raise m.0 s.first limit)
