-- What holds of a budget between any two atomic steps, of its three words and of the views of all its passes.
use Rattle.std.specs.Prelude.{◌≡◌, ℕ, ◌+◌, ◌<◌, ◌≤◌, max, true, false, List, [], ◌∷◌, length, if◌then◌else◌}
use mathlib.Core.Option.{some}
use lib.ListN.{get_elem?}
use Rattle.atomic_table.specs.Table.{State}
use Rattle.sched_ticket.specs.Lists.{total, below, Each}
use Rattle.sched_ticket.specs.Parts.{all_parts}
use Rattle.sched_ticket.specs.declared.view.Terms.{Terms}
use Rattle.sched_ticket.specs.declared.view.Refusal.{Refusal}
use Rattle.sched_ticket.specs.declared.view.Mark.{Mark}
use Rattle.sched_ticket.specs.declared.view.Mark.TheVariants.{Unseen, Sole, Shared}
use Rattle.sched_ticket.specs.declared.view.View.{View}

-- where the words of a budget's table stand
abbrev pub drawn_at : ℕ
drawn_at = 0

abbrev pub made_at : ℕ
made_at = 16

abbrev pub limit_at : ℕ
limit_at = 32

-- the words between two of them, which nobody steps on
abbrev gap : List ℕ → List ℕ
gap words = 0 ∷ 0 ∷ 0 ∷ 0 ∷ 0 ∷ 0 ∷ 0 ∷ 0 ∷ 0 ∷ 0 ∷ 0 ∷ 0 ∷ 0 ∷ 0 ∷ 0 ∷ words

-- a budget's table: how many numbers were drawn, how many passes were made, and the limit, 128 bytes apart
abbrev pub laid : ℕ → ℕ → ℕ → List ℕ
laid drawn made limit = drawn ∷ gap (made ∷ gap (limit ∷ []))

-- the refused numbers that a pass's draws used up: of a budget by parts a refused draw uses none up
abbrev pub used_up : View → List Refusal
used_up v = if v.terms.by_parts then [] else v.refusals

-- what the numbers weigh that a pass's draws took: its tickets and those that it used up
abbrev pub number_weight : (ℕ → ℕ) → View → ℕ
number_weight h v = total h v.tickets + total (λ (r : Refusal). h r.number) (used_up v)

-- the passes, or the parts, that all views stand for
abbrev pub weights : List View → ℕ
weights views = total (λ (v : View). v.weight) views

abbrev pub refused_splits : List View → ℕ
refused_splits views = total (λ (v : View). v.refused_splits) views

-- the passes that were split from the views' passes
abbrev pub splits : List View → ℕ
splits views = total (λ (v : View). v.splits) views

-- the greatest of n and of what the views' passes raised the limit to
abbrev pub greatest : ℕ → List View → ℕ
greatest n [] = n
greatest n (v ∷ views) = max v.raised_to (greatest n views)

-- a mark is true: a sole pass has the weight of all, a shared one has less
abbrev pub IsMarked : ℕ → Mark → ℕ → Type 0
IsMarked all Unseen weight = Unit {0}
IsMarked all Sole weight = all ≡ weight
IsMarked all Shared weight = weight < all

-- a number was refused by a limit that the pass had found: it is not below it, and the limit is never below it
abbrev pub IsRefusal : Terms → ℕ → Refusal → Type 0
IsRefusal k limit r = (k.limit ≤ r.floor) × (r.floor ≤ r.number) × (r.floor ≤ limit)

-- nothing is left of a pass that was joined into another
pub record IsSpent (v : View) : Type 0 where
  pub weight : v.weight ≡ 0
  pub tickets : v.tickets ≡ []
  pub refusals : v.refusals ≡ []
  pub splits : v.splits ≡ 0
  pub refused_splits : v.refused_splits ≡ 0
  pub raised_to : v.raised_to ≡ 0

-- one view fits the words and the weight of all views
pub record Fits (k : Terms) (drawn made limit all : ℕ) (v : View) : Type 0 where
  -- each ticket is below the greatest limit that the pass has found
  pub tickets : Each (λ t. t < v.floor) v.tickets
  pub refusals : Each (IsRefusal k limit) v.refusals
  -- a draw found none where so many were drawn
  pub late : Each (λ (r : Refusal). r.number ≤ drawn) v.refusals
  pub found : v.found ≤ drawn
  pub floor : v.floor ≤ limit
  -- a pass that stands for some is of this budget, and knows its first limit
  pub live : 0 < v.weight → (v.terms ≡ k) × (k.limit ≤ v.floor)
  -- one that stands for none has nothing
  pub spent : v.weight ≡ 0 → (v.tickets ≡ []) × (v.refusals ≡ []) × (v.splits ≡ 0) × (v.raised_to ≡ 0)
  pub few_refusals : length (used_up v) ≤ v.weight
  pub few_refused_splits : v.refused_splits ≤ v.weight
  pub too_many_made : 0 < v.refused_splits → 65536 < made
  pub mark : IsMarked all v.mark v.weight

-- the words and the views fit together
pub record IsOrderly (k : Terms) (drawn made limit : ℕ) (views : List View) : Type 0 where
  -- each number below drawn is in one view, as a ticket or as a number used up, once, and no other number is
  pub numbers : (h : ℕ → ℕ) → total (number_weight h) views ≡ below h drawn
  -- the passes made are those that the views stand for and the splits that were refused
  pub counted : made ≡ weights views + refused_splits views
  -- where passes are counted, every one but the first was split from one, and they are few
  pub passes : k.by_parts ≡ false → (weights views ≡ splits views + 1) × (weights views ≤ 65536)
  -- by parts the views have all of them, and as many were made from the beginning
  pub parts : k.by_parts ≡ true → (weights views ≡ all_parts) × (made ≡ all_parts)
  -- the limit is the first one, or the greatest that a pass raised it to
  pub limit_is : limit ≡ greatest k.limit views
  pub rises : k.limit ≤ limit
  pub fixed : k.rises ≡ false → limit ≡ k.limit
  pub small : limit ≤ 4294967296
  pub each : (by : ℕ) (v : View) → get_elem? views by ≡ some v → Fits k drawn made limit (weights views) v

-- the rule of a budget's table
pub record IsKept (k : Terms) (s : State ℕ View) : Type 0 where
  pub drawn : ℕ
  pub made : ℕ
  pub limit : ℕ
  pub words : s.words ≡ laid drawn made limit
  pub orderly : IsOrderly k drawn made limit s.views
