-- One step: what a request's call makes of the word of its limit, and of what the request holds.
use Rattle.std.specs.Prelude.{ℕ, Bool, true, false, if◌then◌else◌, Option, Some, None, Result, Ok, Err}
use Rattle.sched_limit_word.specs.Rule.{Next}
use Rattle.sched_limit_word.specs.declared.call.Call.{Call}
use Rattle.sched_limit_word.specs.declared.call.Call.TheVariants as call
use Rattle.sched_limit.specs.declared.refusal.Refusal.{Refusal}
use Rattle.sched_limit.specs.declared.refusal.Refusal.TheVariants.{RacesLost, OutOfTurn}
use Rattle.sched_limit.specs.declared.request.Request.{Request}
use Rattle.sched_limit.specs.declared.request.Told.{Told}
use Rattle.sched_limit.specs.declared.request.Told.TheVariants.{Admit, Draw, Failed, Succeeded, Cancelled, Ended}

-- what a call answers that may be refused
abbrev pub Answer : Type 0
Answer = Result (Unit {0}) Refusal

-- no request
abbrev pub nothing : Request
nothing = record { counted = false; slots = 0; drawn = None; generation = 0 }

-- one that was admitted in a generation
abbrev pub admitted : ℕ → Request
admitted generation = record { counted = true; slots = 0; drawn = None; generation = generation }

-- one that was granted a draw of this cost, in a generation
abbrev pub drew : ℕ → ℕ → Request
drew cost generation = record { counted = true; slots = 1; drawn = Some cost; generation = generation }

-- one whose draw was refused holds no slot
abbrev pub refused_draw : Request → Request
refused_draw r = record r { slots = if r.counted then 0 else r.slots }

-- one whose last draw was cancelled, if it was granted any: it holds neither what that cost nor a slot
abbrev pub undrawn : Option ℕ → Request → Request
undrawn None r = r
undrawn (Some cost) r = record r { slots = 0; drawn = None }

-- a machine, what it refuses, the generation of a word, and what a success is worth
pub record Rules : Type 0 where
  pub next : Next
  pub refusal : Call → ℕ → Option Refusal
  pub stamp : ℕ → ℕ
  pub worth : Option ℕ → ℕ

-- those of each machine of a kind
abbrev pub rules : {M : Type 0} → (M → Next) → (M → Call → ℕ → Option Refusal) → (M → ℕ → ℕ) → (M → Option ℕ → ℕ) →
    M → Rules
rules next refusal stamp worth m =
    record { next = next m; refusal = refusal m; stamp = stamp m; worth = worth m }

-- whether it asks, and may be refused
abbrev pub asks : Told → Bool
asks (Admit now) = true
asks (Draw now cost) = true
asks _ = false

-- what a retry gives back that was drawn, if one was
abbrev pub returned_of : Option ℕ → ℕ → Option Call
returned_of None slots = None
returned_of (Some cost) slots = Some (call.Returned cost slots)

-- the call that a request makes with what it tells, if it makes one: it is admitted once, and draws while it is
-- admitted
abbrev pub call_of : (Option ℕ → ℕ) → Told → ℕ → Request → Option Call
call_of worth (Admit now) random r = if r.counted then None else Some (call.Admit now random 0)
call_of worth (Draw now cost) random r = if r.counted then Some (call.Draw now cost r.slots) else None
call_of worth (Failed now) random r = Some (call.Failed now r.generation)
call_of worth (Succeeded now) random r = Some (call.Succeeded now r.generation (worth r.drawn))
call_of worth Cancelled random r = returned_of r.drawn r.slots
call_of worth Ended random r = if r.counted then Some (call.Ended r.slots) else None

-- the word after a call, if there is one
abbrev pub made : Next → Option Call → ℕ → ℕ
made next None word = word
made next (Some c) word = next c word

-- why a call is refused, or one that asks out of turn
abbrev pub refusal_at : Rules → Option Call → ℕ → Option Refusal
refusal_at m None word = Some OutOfTurn
refusal_at m (Some c) word = m.refusal c word

-- what tells is not refused
abbrev pub refusal_of : Rules → Told → Option Call → ℕ → Option Refusal
refusal_of m told c word = if asks told then refusal_at m c word else None

-- a refusal as an answer
abbrev pub answered : Option Refusal → Answer
answered None = Ok tt
answered (Some why) = Err why

-- what a request holds that was answered so, at a word of this generation
abbrev pub held : Told → Answer → ℕ → Request → Request
held (Admit now) (Ok x) generation r = admitted generation
held (Admit now) (Err why) generation r = r
held (Draw now cost) (Ok x) generation r = drew cost generation
held (Draw now cost) (Err why) generation r = refused_draw r
held Cancelled answer generation r = undrawn r.drawn r
held Ended answer generation r = nothing
held _ answer generation r = r

-- what a step leaves
pub record Step : Type 0 where
  pub word : ℕ
  pub answer : Answer
  pub request : Request

abbrev pub step : Rules → Told → ℕ → Request → ℕ → Step
step m told random r word =
    let c = call_of m.worth told random r in
    let left = made m.next c word in
    let answer = answered (refusal_of m told c word) in
    record { word = left; answer = answer; request = held told answer (m.stamp left) r }

-- how many races a call loses before it gives up, what it then answers, and what its request then holds
abbrev pub tries_of : Told → ℕ
tries_of told = if asks told then 64 else 18446744073709551615

abbrev pub lost_answer : Told → Answer
lost_answer told = if asks told then Err RacesLost else Ok tt

abbrev pub lost_held : Told → Request → Request
lost_held told r = if asks told then r else held told (Ok tt) 0 r
