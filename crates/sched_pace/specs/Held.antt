-- A pass of a pace, with the pace and its last take, and what each call does to these.
use Rattle.std.specs.Prelude.{◌≡◌, ◌⊎◌, ℕ, ◌+◌, ◌≤◌, Bool, false, List, Option, Some, None, Err}
use Rattle.sched_ticket.specs.Lists.{is}
use Rattle.sched_limit_word.specs.Calls.{Called, LostRaces}
use Rattle.sched_limit_word.specs.Held.{Name, Held}
use Rattle.sched_limit_word.specs.Tokens.{gained_by, used_by}
use Rattle.sched_limit_word.specs.View.{part_of, without_part, with_look}
use Rattle.sched_limit_word.specs.declared.call.Call.TheVariants.{Draw, Returned}
use Rattle.sched_limit_word.specs.declared.view.Move.{Move}
use Rattle.sched_limit_word.specs.declared.view.View.{View}
use Rattle.sched_pace.specs.Pace.{took, begins_at, pace_next, is_last}
use Rattle.sched_pace.specs.Step.{Answer, answer_of, last_of}
use Rattle.sched_pace.specs.Tokens.{name, pace_tokens}
use Rattle.sched_pace.specs.declared.fault.SplitFault.{SplitFault}
use Rattle.sched_pace.specs.declared.fault.SplitFault.TheVariants as fault
use Rattle.sched_pace.specs.declared.fault.TakeFault.TheVariants as take_fault
use Rattle.sched_pace.specs.declared.pace.Pace.{Pace}
use Rattle.sched_pace.specs.declared.step.Last.{Last}

-- a pace, a pass of it, and the last take of the pass where it was granted and is not given back
pub record OfPace : Type 0 where
  pub pass : Held
  pub limit : Name Pace
  pub last : Option Last

-- the token that gives it back
abbrev pub held : Option Last → ℕ → ℕ
held None kind = 0
held (Some l) kind = is kind (name l.cost l.mark)

-- these moves gained what they used, and what gives the last take back
abbrev pub HoldsLast : Pace → Option Last → List Move → Type 0
HoldsLast p last moves =
    (kind : ℕ) → used_by (pace_tokens p) kind moves + held last kind ≤ gained_by (pace_tokens p) kind moves

-- within the call there was a moment at which the word was this one, and the step on it was taken
pub record TookAt (p : Pace) (now cost : ℕ) (answer : Answer) (last : Option Last) (v u : View) : Type 0 where
  pub word : ℕ
  pub called : Called (pace_next p) (Draw now cost 0) word v u
  pub answers : answer ≡ answer_of (took p now cost word)
  pub last_is : last ≡ last_of cost (took p now cost word)

-- other calls came first, 64 times
pub record TookNothing (answer : Answer) (last : Option Last) (v u : View) : Type 0 where
  pub lost : LostRaces 64 v u
  pub answers : answer ≡ Err take_fault.RacesLost
  pub last_is : last ≡ None

pub record Takes (d : OfPace) (now cost : ℕ) (answer : Answer) (e : OfPace) : Type 0 where
  pub limit : e.limit ≡ d.limit
  pub table : e.pass.table ≡ d.pass.table
  pub takes : TookAt d.limit.machine now cost answer e.last d.pass.has e.pass.has
      ⊎ TookNothing answer e.last d.pass.has e.pass.has

pub record GaveAt (p : Pace) (l : Last) (given : Bool) (v u : View) : Type 0 where
  pub word : ℕ
  pub called : Called (pace_next p) (Returned l.cost l.mark) word v u
  pub given_is : given ≡ is_last p l.cost l.mark word

abbrev pub GivesLast : Pace → Option Last → Bool → View → View → Type 0
GivesLast p None given v u = (given ≡ false) × (u ≡ v)
GivesLast p (Some l) given v u =
    GaveAt p l given v u ⊎ (LostRaces 18446744073709551615 v u × (given ≡ false))

pub record Gives (d : OfPace) (given : Bool) (e : OfPace) : Type 0 where
  pub limit : e.limit ≡ d.limit
  pub table : e.pass.table ≡ d.pass.table
  pub last : e.last ≡ None
  pub gives : GivesLast d.limit.machine d.last given d.pass.has e.pass.has

-- the part has no take
pub record Splits (d part e : OfPace) : Type 0 where
  pub limit : part.limit ≡ d.limit
  pub last : part.last ≡ None
  pub table : part.pass.table ≡ d.pass.table
  pub has : part.pass.has ≡ part_of d.pass.has
  pub limit_left : e.limit ≡ d.limit
  pub last_left : e.last ≡ d.last
  pub table_left : e.pass.table ≡ d.pass.table
  pub left : e.pass.has ≡ without_part d.pass.has

-- a pass that is not split has one part, or there is no memory
abbrev pub NoSplit : OfPace → SplitFault → OfPace → Type 0
NoSplit d fault.NoMemory e = e ≡ d
NoSplit d fault.TooManyPasses e = (e ≡ d) × (d.pass.has.weight ≡ 1)

-- it has read the word, and changed nothing
pub record Sees (d : OfPace) (now at : ℕ) (e : OfPace) : Type 0 where
  pub limit : e.limit ≡ d.limit
  pub last : e.last ≡ d.last
  pub table : e.pass.table ≡ d.pass.table
  pub word : ℕ
  pub looked : e.pass.has ≡ with_look d.pass.has word
  pub at_is : at ≡ begins_at d.limit.machine now 1 word
