-- What the rule says in the words of whoever uses a budget. Each law is the contract of a function of the module
-- `laws`.
use Rattle.std.specs.Prelude.{◌≡◌, ◌≢◌, ℕ, ◌+◌, ◌<◌, ◌≤◌, true, false, List, length, min}
use mathlib.Core.Option.{some}
use lib.ListN.{get_elem?}
use Rattle.atomic_table.specs.Table.{State}
use Rattle.sched_ticket.specs.Lists.{total, Each, is, times, once_below}
use Rattle.sched_ticket.specs.Parts.{all_parts}
use Rattle.sched_ticket.specs.Rule.{used_up, number_weight, weights, splits, refused_splits, greatest}
use Rattle.sched_ticket.specs.Rule.{IsRefusal, IsSpent, IsKept}
use Rattle.sched_ticket.specs.declared.view.Terms.{Terms}
use Rattle.sched_ticket.specs.declared.view.Refusal.{Refusal}
use Rattle.sched_ticket.specs.declared.view.Mark.TheVariants.{Sole, Shared}
use Rattle.sched_ticket.specs.declared.view.View.{View}

-- of every budget, between any two atomic steps
abbrev pub Always : ((k : Terms) (s : State ℕ View) → IsKept k s → Type 0) → Type 0
Always P = (k : Terms) (s : State ℕ View) (kept : IsKept k s) → P k s kept

-- of every pass of every budget, alive or dropped
abbrev pub OfEachPass : ((k : Terms) (s : State ℕ View) → IsKept k s → ℕ → View → Type 0) → Type 0
OfEachPass P = Always (λ k s kept. (by : ℕ) (v : View) → get_elem? s.views by ≡ some v → P k s kept by v)

abbrev pub tickets_of : List View → ℕ
tickets_of views = total (λ (v : View). length v.tickets) views

-- how many numbers were used up by refused draws
abbrev pub used_up_of : List View → ℕ
used_up_of views = total (λ (v : View). length (used_up v)) views

-- each number drawn is in one pass, as a ticket or as a number used up, once
abbrev pub NumbersStandOnce : Type 0
NumbersStandOnce = Always (λ k s kept. (x : ℕ) → total (number_weight (is x)) s.views ≡ once_below x kept.drawn)

-- the draws are the tickets and the numbers used up
abbrev pub DrawsAreCounted : Type 0
DrawsAreCounted = Always (λ k s kept. kept.drawn ≡ tickets_of s.views + used_up_of s.views)

-- by parts no number is used up: the draws are the tickets
abbrev pub NoneIsUsedUp : Type 0
NoneIsUsedUp = Always (λ k s kept. k.by_parts ≡ true → kept.drawn ≡ tickets_of s.views)

-- a refused number stands with the limit that was known then, which it is not below and the limit never falls below
abbrev pub EachRefusalIsHigh : Type 0
EachRefusalIsHigh = OfEachPass (λ k s kept by v. Each (IsRefusal k kept.limit) v.refusals)

-- of a budget that keeps its limit the tickets of all passes are the numbers below the draws made and the limit, each
-- in one pass, once
abbrev pub TicketsStandOnce : Type 0
TicketsStandOnce = Always (λ k s kept. k.rises ≡ false → (x : ℕ) →
    total (λ (v : View). times x v.tickets) s.views ≡ once_below x (min kept.drawn k.limit))

-- of a budget that keeps its limit there is a refusal only where all tickets were drawn, and one number more where
-- passes are counted
abbrev pub RefusalsAreLate : Type 0
RefusalsAreLate = OfEachPass (λ k s kept by v. k.rises ≡ false → 0 < length v.refusals →
    (k.limit ≤ kept.drawn) × (k.by_parts ≡ false → k.limit < kept.drawn))

-- a draw is refused only where as many were drawn as the limit that it knew
abbrev pub RefusalsAreJust : Type 0
RefusalsAreJust = OfEachPass (λ k s kept by v.
    Each (λ (r : Refusal). (r.floor ≤ r.number) × (r.number ≤ kept.drawn)) v.refusals)

-- the tickets never pass the limit
abbrev pub TicketsStayBelow : Type 0
TicketsStayBelow = Always (λ k s kept. tickets_of s.views ≤ kept.limit)

abbrev pub EachTicketIsBelow : Type 0
EachTicketIsBelow = OfEachPass (λ k s kept by v. Each (λ t. t < kept.limit) v.tickets)

-- no pass knows of a higher limit than there is
abbrev pub FloorsStayBelow : Type 0
FloorsStayBelow = OfEachPass (λ k s kept by v. v.floor ≤ kept.limit)

-- the limit is the first one, or the greatest that a pass raised it to
abbrev pub LimitIsRaised : Type 0
LimitIsRaised = Always (λ k s kept. kept.limit ≡ greatest k.limit s.views)

-- where passes are counted, every one but the first was split from one
abbrev pub PassesWereSplit : Type 0
PassesWereSplit = Always (λ k s kept. k.by_parts ≡ false → weights s.views ≡ splits s.views + 1)

-- by parts the passes have all of them, however often they were split and joined
abbrev pub PartsAreKept : Type 0
PartsAreKept = Always (λ k s kept. k.by_parts ≡ true → (weights s.views ≡ all_parts) × (kept.made ≡ all_parts))

-- a view that stands for no pass has nothing
abbrev pub SpentHasNothing : Type 0
SpentHasNothing = OfEachPass (λ k s kept by v. v.weight ≡ 0 → IsSpent v)

-- what was made is what the views stand for and the splits that were refused, and at most 65,536 counted passes stand
abbrev pub PassesAreCounted : Type 0
PassesAreCounted = Always (λ k s kept. (kept.made ≡ weights s.views + refused_splits s.views)
    × (k.by_parts ≡ false → weights s.views ≤ 65536))

-- each of the passes that a view stands for used a number up once at most, and was refused a split once at most
abbrev pub EachIsRefusedOnce : Type 0
EachIsRefusedOnce =
    OfEachPass (λ k s kept by v. (length (used_up v) ≤ v.weight) × (v.refused_splits ≤ v.weight))

-- no word comes near its end
abbrev pub WordsStaySmall : Type 0
WordsStaySmall = Always (λ k s kept. (kept.drawn ≤ kept.limit + 65536) × (kept.limit ≤ 4294967296)
    × (kept.made ≤ 4611686018427387904) × (k.by_parts ≡ false → kept.made ≤ 131072))

-- by parts no more is drawn than the limit
abbrev pub DrawsStayBelow : Type 0
DrawsStayBelow = Always (λ k s kept. k.by_parts ≡ true → kept.drawn ≤ kept.limit)

-- a refused split is one past 65,536 passes
abbrev pub SplitsAreRefusedLate : Type 0
SplitsAreRefusedLate = OfEachPass (λ k s kept by v. 0 < v.refused_splits → 65536 < kept.made)

-- where a pass is marked sole, nothing is left of every other
abbrev pub SoleIsAlone : Type 0
SoleIsAlone = OfEachPass (λ k s kept by v. v.mark ≡ Sole →
    (other : ℕ) (u : View) → other ≢ by → get_elem? s.views other ≡ some u → IsSpent u)

-- where a pass is marked shared, another pass stands for some
abbrev pub SharedHasAnother : Type 0
SharedHasAnother = OfEachPass (λ k s kept by v. v.mark ≡ Shared →
    (other : ℕ) × (u : View) × (other ≢ by) × (get_elem? s.views other ≡ some u) × (0 < u.weight))
