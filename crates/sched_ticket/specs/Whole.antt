-- What is true of a pass that stands for all passes of its budget, and of one that does not.
use Rattle.std.specs.Prelude.{◌≡◌, ℕ, ◌+◌, ◌<◌, ◌≤◌, true, false, length, min, max}
use Rattle.sched_ticket.specs.Parts.{all_parts}
use Rattle.sched_ticket.specs.Lists.{below, Each, AreBelow}
use Rattle.sched_ticket.specs.Rule.{used_up, number_weight, IsRefusal}
use Rattle.sched_ticket.specs.declared.view.Terms.{Terms}
use Rattle.sched_ticket.specs.declared.view.View.{View}

-- the pass stands for all: its tickets and the numbers that it used up are the numbers from 0 on, each once. `limit` is
-- the limit when that was seen.
pub record IsWhole (k : Terms) (v : View) : Type 0 where
  pub limit : ℕ
  -- it stands for one pass more than were split from its passes, or has all parts
  pub passes : k.by_parts ≡ false → v.weight ≡ v.splits + 1
  pub parts : k.by_parts ≡ true → v.weight ≡ all_parts
  pub numbers : (h : ℕ → ℕ) → number_weight h v ≡ below h (length v.tickets + length (used_up v))
  -- the limit is the first one, or the greatest that a pass raised it to
  pub limit_is : limit ≡ max k.limit v.raised_to
  pub floor : v.floor ≤ limit
  pub fixed : k.rises ≡ false → limit ≡ k.limit
  pub small : limit ≤ 4294967296
  pub below_limit : Each (λ t. t < limit) v.tickets
  pub high : Each (IsRefusal k limit) v.refusals
  pub few : length v.tickets ≤ limit
  -- where the limit was never raised, the tickets are the numbers below the draws made and the limit
  pub count : limit ≡ k.limit → length v.tickets ≡ min (length v.tickets + length v.refusals) limit
  pub each_once : limit ≡ k.limit → AreBelow v.tickets (length v.tickets)

-- the pass is one of several: all passes of its budget, or their parts, are more than it stands for
pub record IsOneOfSeveral (k : Terms) (v : View) : Type 0 where
  pub all : ℕ
  pub less : v.weight < all
  pub parts : k.by_parts ≡ true → all ≡ all_parts
  -- of counted passes there is one more than were split from them, and there are few
  pub passes : k.by_parts ≡ false → (v.splits < all) × (all ≤ 65536)
