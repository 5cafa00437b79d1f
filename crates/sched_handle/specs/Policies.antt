-- What bytes are read as, and what the calls on a policy do.
use Rattle.std.specs.Prelude.{◌≡◌, ℕ, List, IfSome, unwrap_or, Result, Ok, Err}
use Rattle.sched_plan.specs.Schedule.{Schedule, nodes_of, depth_of}
use Rattle.sched_plan_bound.specs.Bound.{bound_of, GoesOnAtMost}
use Rattle.sched_plan_json.specs.Texts.{ReadsText}
use Rattle.sched_plan_reads.specs.Reads.{reads_of}
use Rattle.sched_handle.specs.Held.{kind_of, IsOther, Wants}
use Rattle.sched_handle.specs.declared.held.Held.{Held}
use Rattle.sched_handle.specs.declared.held.Held.TheVariants.{Policy}
use Rattle.sched_handle.specs.declared.held.Kind.TheVariants as kind
use Rattle.sched_handle.specs.Replies.{nowhere}
use Rattle.sched_handle.specs.Status.{By, of_text}
use Rattle.sched_handle.specs.declared.replies.Place.{Place}
use Rattle.sched_handle.specs.declared.replies.Size.{Size}
use Rattle.sched_handle.specs.declared.status.Status.{Status}
use Rattle.sched_handle.specs.declared.status.Status.TheVariants.{NotJson, NoMemory}
use Rattle.std.specs.Global.{Global}
use Rattle.std_alloc.specs.declared.boxed.Box.{Box}

-- the policy of a schedule is made, or there is no memory
abbrev pub IsMade : Schedule → Result (Box Held Global) Status → Type 0
IsMade s (Ok b) = b.value ≡ Policy s
IsMade s (Err e) = e ≡ NoMemory

-- the bytes spell this policy, or their first fault
abbrev pub ReadsPolicy : List ℕ → Result (Box Held Global) Status → Type 0
ReadsPolicy bytes (Ok b) = (s : Schedule) × (b.value ≡ Policy s) × ReadsText bytes (Ok s)
ReadsPolicy bytes (Err s) = By of_text (λ fault. ReadsText bytes (Err fault)) s

-- a place is told only of bytes that are no JSON
abbrev pub TellsPlace : Result (Box Held Global) Status → Place → Type 0
TellsPlace (Err NotJson) place = Unit {0}
TellsPlace r place = place ≡ nowhere

-- one more handle has the policy, or none for this reason
abbrev pub Shares : Held → Result (Box Held Global) Status → Type 0
Shares u (Ok b) = (b.value ≡ u) × (kind_of u ≡ kind.Policy)
Shares u (Err s) = Wants kind.Policy u s

-- how many nodes a schedule has, how deep it is, and the bound that its nodes give, which is one; 2^64 - 1 stands for
-- none
pub record IsSize (s : Schedule) (size : Size) : Type 0 where
  pub nodes : size.nodes ≡ nodes_of s
  pub depth : size.depth ≡ depth_of s
  pub most : size.most ≡ unwrap_or (bound_of s) 18446744073709551615
  pub law : IfSome (bound_of s) (GoesOnAtMost s)

-- the size of a policy
abbrev pub Sizes : Held → Result Size Status → Type 0
Sizes u (Ok size) = (s : Schedule) × (u ≡ Policy s) × IsSize s size
Sizes u (Err s) = IsOther kind.Policy u s

-- what a policy reads of an event beside its moment
abbrev pub Reads : Held → Result ℕ Status → Type 0
Reads u (Ok reads) = (s : Schedule) × (u ≡ Policy s) × (reads ≡ reads_of s)
Reads u (Err s) = IsOther kind.Policy u s
