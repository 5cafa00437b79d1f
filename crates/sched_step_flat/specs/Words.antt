-- The words that stand for how far a schedule has come: a node's own come first, and then those of the schedules under
-- it.
use Rattle.std.specs.Prelude.{ℕ, ◌+◌, ◌-◌, nat_eq, not, List, [], ◌∷◌, ◌++◌, Option, Some, None, if◌then◌else◌}
use Rattle.std.specs.Prelude.{slice_index}
use Rattle.sched_plan.specs.Schedule.{Schedule, leaf, one, two}
use Rattle.sched_plan.specs.declared.leaves.Leaf.{Leaf}
use Rattle.sched_plan.specs.declared.leaves.Leaf.TheVariants.{Forever, Recurs, Spaced, Fixed, Windowed, Linear}
use Rattle.sched_plan.specs.declared.leaves.Leaf.TheVariants.{Exponential, ExponentialMilli, Fibonacci, Decorrelated}
use Rattle.sched_plan.specs.declared.leaves.Leaf.TheVariants.{Elapsed, Identity, Unfold, Lone}
use Rattle.sched_plan.specs.declared.nodes.Fold.TheVariants.{Sum, Count, Max}
use Rattle.sched_plan.specs.declared.nodes.One.{One}
use Rattle.sched_plan.specs.declared.nodes.One.TheVariants.{Gather, Within, EndsBy, Renew, RenewIdle}
use Rattle.sched_plan.specs.declared.nodes.Two.{Two}
use Rattle.sched_plan.specs.declared.nodes.Two.TheVariants.{Follow}
use Rattle.sched_step.specs.declared.leaves.LeafState.{LeafState}
use Rattle.sched_step.specs.declared.leaves.LeafState.TheVariants.{Counted, Planned, Windows, Product, Scaled, Summands}
use Rattle.sched_step.specs.declared.leaves.LeafState.TheVariants.{Waited, Started, Blank, Unfolded, Spent}
use Rattle.sched_step.specs.declared.turns.Turn.{Turn}
use Rattle.sched_step.specs.declared.turns.Turn.TheVariants.{Together, Uncrossed, Crossed}
use Rattle.sched_step.specs.Progress.{Kept, none_kept, since, round_since, last_at, total, listed, Progress, at_leaf}
use Rattle.sched_step.specs.Progress.{at_one, at_two, bit}
use Rattle.sched_step.specs.StateOf.{leaf_state, first_kept, first_turn}

-- how many words a leaf has
abbrev pub leaf_width : Leaf → ℕ
leaf_width (Fixed length) = 3
leaf_width (Windowed length) = 2
leaf_width (Fibonacci delay) = 2
leaf_width Identity = 0
leaf_width l = 1

-- how many words a node over one schedule has of its own; the list of a fold is not kept
abbrev pub one_width : One → ℕ
one_width (Gather Sum) = 1
one_width (Gather Count) = 1
one_width (Gather Max) = 1
one_width (Within length) = 1
one_width (EndsBy length) = 1
one_width (Renew length) = 1
one_width (RenewIdle length) = 1
one_width k = 0

-- how many words a node over two schedules has of its own
abbrev pub two_width : Two → ℕ
two_width Follow = 1
two_width k = 0

-- how many words a schedule has
abbrev pub width_of : Schedule → ℕ
width_of (leaf l) = leaf_width l
width_of (one k a) = one_width k + width_of a
width_of (two k a b) = two_width k + (width_of a + width_of b)

-- a moment is kept as one more, and 0 is none
abbrev pub moment_word : Option ℕ → ℕ
moment_word None = 0
moment_word (Some m) = m + 1

abbrev pub moment_from : ℕ → Option ℕ
moment_from word = if nat_eq word 0 then None else Some (word - 1)

-- the words of the first moment and the start planned last
abbrev pub planned_words : Option (ℕ × ℕ) → List ℕ
planned_words None = 0 ∷ 0 ∷ []
planned_words (Some p) = (p.0 + 1) ∷ p.1 ∷ []

abbrev pub planned_from : ℕ → ℕ → Option (ℕ × ℕ)
planned_from first start = if nat_eq first 0 then None else Some (first - 1, start)

-- the words of a leaf's state
abbrev pub leaf_words : LeafState → List ℕ
leaf_words (Counted n) = n ∷ []
leaf_words (Planned n p) = n ∷ planned_words p
leaf_words (Windows n m) = n ∷ moment_word m ∷ []
leaf_words (Product x) = x ∷ []
leaf_words (Scaled x) = x ∷ []
leaf_words (Summands x y) = x ∷ y ∷ []
leaf_words (Waited x) = x ∷ []
leaf_words (Started m) = moment_word m ∷ []
leaf_words Blank = []
leaf_words (Unfolded x) = x ∷ []
leaf_words (Spent b) = bit b ∷ []

-- the state of a leaf that these words stand for
abbrev pub leaf_from : Leaf → List ℕ → LeafState
leaf_from Forever ws = Counted (slice_index ws 0)
leaf_from (Recurs count) ws = Counted (slice_index ws 0)
leaf_from (Spaced delay) ws = Counted (slice_index ws 0)
leaf_from (Fixed length) ws = Planned (slice_index ws 0) (planned_from (slice_index ws 1) (slice_index ws 2))
leaf_from (Windowed length) ws = Windows (slice_index ws 0) (moment_from (slice_index ws 1))
leaf_from (Linear delay) ws = Counted (slice_index ws 0)
leaf_from (Exponential base factor) ws = Product (slice_index ws 0)
leaf_from (ExponentialMilli base thousandths) ws = Scaled (slice_index ws 0)
leaf_from (Fibonacci delay) ws = Summands (slice_index ws 0) (slice_index ws 1)
leaf_from (Decorrelated lane base thousandths most) ws = Waited (slice_index ws 0)
leaf_from Elapsed ws = Started (moment_from (slice_index ws 0))
leaf_from Identity ws = Blank
leaf_from (Unfold seed factor more) ws = Unfolded (slice_index ws 0)
leaf_from (Lone delay) ws = Spent (not (nat_eq (slice_index ws 0) 0))

-- the words of what a node over one schedule keeps
abbrev pub kept_words : Kept → List ℕ
kept_words none_kept = []
kept_words (since m) = moment_word m ∷ []
kept_words (round_since m) = moment_word m ∷ []
kept_words (last_at m) = moment_word m ∷ []
kept_words (total n) = n ∷ []
kept_words (listed ds) = []

-- what a node over one schedule keeps where its own word is this one, if it has a word
abbrev pub kept_from : One → ℕ → Kept
kept_from (Gather Sum) word = total word
kept_from (Gather Count) word = total word
kept_from (Gather Max) word = total word
kept_from (Within length) word = since (moment_from word)
kept_from (EndsBy length) word = since (moment_from word)
kept_from (Renew length) word = round_since (moment_from word)
kept_from (RenewIdle length) word = last_at (moment_from word)
kept_from k word = none_kept

-- whose turn it is of two schedules, which is kept of those that stand in turn alone
abbrev pub turn_words : Turn → List ℕ
turn_words Together = []
turn_words Uncrossed = 0 ∷ []
turn_words Crossed = 1 ∷ []

-- the words of how far a schedule has come
abbrev pub words_of : Progress → List ℕ
words_of (at_leaf s) = leaf_words s
words_of (at_one k p) = kept_words k ++ words_of p
words_of (at_two t p q) = turn_words t ++ (words_of p ++ words_of q)

-- the words before the first event
abbrev pub blank : Schedule → List ℕ
blank (leaf l) = leaf_words (leaf_state l [])
blank (one k a) = kept_words (first_kept k) ++ blank a
blank (two k a b) = turn_words (first_turn k) ++ (blank a ++ blank b)
