-- What the calls on policies make and tell.
use Rattle.std.specs.Prelude.{◌≡◌, ◌⊎◌, ℕ, List, Option, Some, None, Result, Ok, Err, String, string_bytes, IsUtf8}
use Rattle.std.specs.Global.{Global}
use Rattle.std_alloc.specs.declared.boxed.Box.{Box}
use Rattle.serde_json.specs.Written.{compact_text}
use Rattle.sched_plan.specs.Schedule.{Schedule}
use Rattle.sched_plan.specs.declared.plans.PlanFault.TheVariants as refused
use Rattle.sched_plan_json.specs.Texts.{ReadsText}
use Rattle.sched_plan_json_write.specs.Written.{json_of}
use Rattle.sched_plan_node.specs.Given.{IsNode}
use Rattle.sched_plan_node.specs.declared.faults.NodeFault.TheVariants.{NotANode, Plan}
use Rattle.sched_handle.specs.Fills.{HasNoPolicy}
use Rattle.sched_handle.specs.declared.held.Held.{Held}
use Rattle.sched_handle.specs.declared.held.Held.TheVariants.{Policy}
use Rattle.sched_handle.specs.declared.replies.Size.{Size}
use Rattle.sched_handle.specs.declared.status.Status.{Status}
use Rattle.sched_handle.specs.declared.status.Status.TheVariants.{NotAPolicy, OutOfRange, TooDeep, TooMany, NoMemory}

-- a size by its numbers
abbrev pub size_of : ℕ → ℕ → ℕ → Size
size_of nodes depth most = record { nodes = nodes; depth = depth; most = most }

-- the text is the schedule's JSON without spaces, which is read as the schedule
pub record IsJson (s : Schedule) (text : String Global) : Type 0 where
  pub text_is : string_bytes text ≡ compact_text (json_of s)
  pub reads : ReadsText (string_bytes text) (Ok s)

-- the text of the policy that a handle holds, or none for this reason
abbrev pub WritesJson : Option Held → Result (String Global) Status → Type 0
WritesJson u (Ok text) = (s : Schedule) × (u ≡ Some (Policy s)) × IsJson s text
WritesJson u (Err fault) = HasNoPolicy u fault

-- the schedule of the policy that a handle holds, and none where it holds nothing
abbrev pub IsGiven : Option Held → Option Schedule → Type 0
IsGiven None plan = plan ≡ None
IsGiven (Some u) plan = (s : Schedule) × (u ≡ Policy s) × (plan ≡ Some s)

-- a handle holds something, and no policy is had of it, for this reason
abbrev pub IsNotGiven : Option Held → Status → Type 0
IsNotGiven None fault = ⊥
IsNotGiven (Some u) fault = HasNoPolicy (Some u) fault

-- the policy of the node over these schedules, or none for this reason; a name that is no text is none of a node
abbrev pub IsNodeOf : List ℕ → List ℕ → Option Schedule → Option Schedule → Result (Box Held Global) Status → Type 0
IsNodeOf name numbers a b (Ok made) = (s : Schedule) × (made.value ≡ Policy s) × IsNode name numbers a b (Ok s)
IsNodeOf name numbers a b (Err NotAPolicy) = IsUtf8 name → IsNode name numbers a b (Err NotANode)
IsNodeOf name numbers a b (Err OutOfRange) = IsNode name numbers a b (Err (Plan refused.OutOfRange))
IsNodeOf name numbers a b (Err TooDeep) = IsNode name numbers a b (Err (Plan refused.TooDeep))
IsNodeOf name numbers a b (Err TooMany) = IsNode name numbers a b (Err (Plan refused.TooMany))
IsNodeOf name numbers a b (Err NoMemory) = Unit {0}
IsNodeOf name numbers a b (Err _) = ⊥

-- one of both is not given, and that is told; or the policy of the node over what is given
abbrev pub MakesNode : List ℕ → List ℕ → Option Held → Option Held → Result (Box Held Global) Status → Type 0
MakesNode name numbers u v r =
    ((fault : Status) × (r ≡ Err fault) × (IsNotGiven u fault ⊎ IsNotGiven v fault))
    ⊎ ((a b : Option Schedule) × IsGiven u a × IsGiven v b × IsNodeOf name numbers a b r)
