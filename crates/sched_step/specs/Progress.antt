-- How far a schedule has come, as data: a tree of the schedule's shape.
use Rattle.std.specs.Prelude.{ℕ, Bool, true, false, ◌&&◌, nat_le, List, Option, Some, None}
use Rattle.sched_plan.specs.Datum.{Datum, unit, num, pair, list, items_of}
use Rattle.sched_plan.specs.Schedule.{Schedule, leaf, one, two}
use Rattle.sched_plan.specs.declared.leaves.Leaf.{Leaf}
use Rattle.sched_plan.specs.declared.leaves.Leaf.TheVariants.{Forever, Recurs, Spaced, Fixed, Windowed, Linear}
use Rattle.sched_plan.specs.declared.leaves.Leaf.TheVariants.{Exponential, ExponentialMilli, Fibonacci, Decorrelated}
use Rattle.sched_plan.specs.declared.leaves.Leaf.TheVariants.{Elapsed, Identity, Unfold, Lone}
use Rattle.sched_plan.specs.declared.nodes.Fold.TheVariants.{Sum, Count, Max, List as Listing}
use Rattle.sched_plan.specs.declared.nodes.One.{One}
use Rattle.sched_plan.specs.declared.nodes.One.TheVariants.{Gate, Gather, Add, Set, Cap, AddOut, Jitter, Within, EndsBy}
use Rattle.sched_plan.specs.declared.nodes.One.TheVariants.{Renew, RenewIdle, First, Second, Nothing}
use Rattle.sched_plan.specs.declared.nodes.Two.{Two}
use Rattle.sched_plan.specs.declared.nodes.Two.TheVariants.{Meet, Join, Follow, Feed}
use Rattle.sched_step.specs.declared.leaves.LeafState.{LeafState}
use Rattle.sched_step.specs.declared.leaves.LeafState.TheVariants.{Counted, Planned, Windows, Product, Scaled, Summands}
use Rattle.sched_step.specs.declared.leaves.LeafState.TheVariants.{Waited, Started, Blank, Unfolded, Spent}
use Rattle.sched_step.specs.declared.turns.Turn.{Turn}
use Rattle.sched_step.specs.declared.turns.Turn.TheVariants.{Together, Uncrossed, Crossed}

-- what a node over one schedule keeps beside it
pub data Kept : Type 0 where
  -- nothing
  none_kept : Kept
  -- the first moment, once there was one
  since : Option ℕ → Kept
  -- the first moment of the present round, once there was one
  round_since : Option ℕ → Kept
  -- the last moment, once there was one
  last_at : Option ℕ → Kept
  -- what a fold has made of the outputs so far
  total : ℕ → Kept
  -- the outputs so far
  listed : List Datum → Kept

pub data Progress : Type 0 where
  -- of a leaf
  at_leaf : LeafState → Progress
  -- of a node over one schedule: what it keeps, and how far the schedule has come
  at_one : Kept → Progress → Progress
  -- of a node over two schedules: whose turn it is, and how far both have come
  at_two : Turn → Progress → Progress → Progress

-- a moment as a value; nothing where there is none
abbrev pub moment_view : Option ℕ → Datum
moment_view None = unit
moment_view (Some m) = num m

-- the first moment and the start planned last as a value; nothing where there are none
abbrev pub planned_view : Option (ℕ × ℕ) → Datum
planned_view None = unit
planned_view (Some p) = pair (num p.0) (num p.1)

-- 1 for true
abbrev pub bit : Bool → ℕ
bit true = 1
bit false = 0

-- the value that shows a leaf's state
abbrev pub leaf_view : LeafState → Datum
leaf_view (Counted n) = num n
leaf_view (Planned n p) = pair (num n) (planned_view p)
leaf_view (Windows n m) = pair (num n) (moment_view m)
leaf_view (Product x) = num x
leaf_view (Scaled x) = num x
leaf_view (Summands x y) = pair (num x) (num y)
leaf_view (Waited x) = num x
leaf_view (Started m) = moment_view m
leaf_view Blank = unit
leaf_view (Unfolded x) = num x
leaf_view (Spent b) = num (bit b)

-- what a node keeps, beside the value that shows the schedule under it
abbrev pub one_view : Kept → Datum → Datum
one_view none_kept a = a
one_view (since m) a = pair (moment_view m) a
one_view (round_since m) a = pair (moment_view m) a
one_view (last_at m) a = pair (moment_view m) a
one_view (total n) a = pair (num n) a
one_view (listed ds) a = pair (list (items_of ds)) a

-- the values that show two schedules as one; of two in turn also whether the first is done
abbrev pub two_view : Turn → Datum → Datum → Datum
two_view Together a b = pair a b
two_view Uncrossed a b = pair (num 0) (pair a b)
two_view Crossed a b = pair (num 1) (pair a b)

-- the value that shows how far the schedule has come
abbrev pub view_of : Progress → Datum
view_of (at_leaf s) = leaf_view s
view_of (at_one k p) = one_view k (view_of p)
view_of (at_two t p q) = two_view t (view_of p) (view_of q)

-- a moment, if there is one, is not after `now`
abbrev pub is_past : Option ℕ → ℕ → Bool
is_past None now = true
is_past (Some m) now = nat_le m now

-- a leaf's state is of the leaf's kind
abbrev pub leaf_keeps : Leaf → LeafState → Bool
leaf_keeps Forever (Counted n) = true
leaf_keeps (Recurs count) (Counted n) = true
leaf_keeps (Spaced delay) (Counted n) = true
leaf_keeps (Fixed length) (Planned n p) = true
leaf_keeps (Windowed length) (Windows n m) = true
leaf_keeps (Linear delay) (Counted n) = true
leaf_keeps (Exponential base factor) (Product x) = true
leaf_keeps (ExponentialMilli base thousandths) (Scaled x) = true
leaf_keeps (Fibonacci delay) (Summands x y) = true
leaf_keeps (Decorrelated lane base thousandths most) (Waited x) = true
leaf_keeps Elapsed (Started m) = true
leaf_keeps Identity Blank = true
leaf_keeps (Unfold seed factor more) (Unfolded x) = true
leaf_keeps (Lone delay) (Spent b) = true
leaf_keeps l s = false

-- a leaf's state has no first moment after `now`
abbrev pub leaf_began : LeafState → ℕ → Bool
leaf_began (Planned n (Some p)) now = nat_le p.0 now
leaf_began (Windows n m) now = is_past m now
leaf_began (Started m) now = is_past m now
leaf_began s now = true

-- what is kept is of the node's kind
abbrev pub one_keeps : One → Kept → Bool
one_keeps (Gate side want test bound) none_kept = true
one_keeps (Gather Sum) (total n) = true
one_keeps (Gather Count) (total n) = true
one_keeps (Gather Max) (total n) = true
one_keeps (Gather Listing) (listed ds) = true
one_keeps (Add delay) none_kept = true
one_keeps (Set delay) none_kept = true
one_keeps (Cap delay) none_kept = true
one_keeps AddOut none_kept = true
one_keeps (Jitter lane least most) none_kept = true
one_keeps (Within length) (since m) = true
one_keeps (EndsBy length) (since m) = true
one_keeps (Renew length) (round_since m) = true
one_keeps (RenewIdle length) (last_at m) = true
one_keeps First none_kept = true
one_keeps Second none_kept = true
one_keeps Nothing none_kept = true
one_keeps k s = false

-- what is kept has no moment after `now`
abbrev pub one_began : Kept → ℕ → Bool
one_began (since m) now = is_past m now
one_began (round_since m) now = is_past m now
one_began (last_at m) now = is_past m now
one_began s now = true

-- two schedules side by side have no turns, and two one after another have
abbrev pub two_keeps : Two → Turn → Bool
two_keeps Meet Together = true
two_keeps Join Together = true
two_keeps Feed Together = true
two_keeps Follow Uncrossed = true
two_keeps Follow Crossed = true
two_keeps k t = false

-- whether the schedules are stepped side by side, each with the same event
abbrev pub is_beside : Two → Bool
is_beside Meet = true
is_beside Join = true
is_beside k = false

-- node by node the progress is of the schedule's shape, and keeps no first moment after `now`
abbrev pub fits : Schedule → Progress → ℕ → Bool
fits (leaf l) (at_leaf s) now = leaf_keeps l s && leaf_began s now
fits (one k a) (at_one s p) now = (one_keeps k s && one_began s now) && fits a p now
fits (two k a b) (at_two t p q) now = (two_keeps k t && fits a p now) && fits b q now
fits s p now = false
