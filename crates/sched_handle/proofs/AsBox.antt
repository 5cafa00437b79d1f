-- The parts of a handle own what a box at the same types owns.
use seplogic.Ra.Ura.{Ura}
use mir.Raw.{raw as bare}
use mir.Syntax.{impl, tnil, dnil}
use mir.Val.{Val, vnull, vstruct, vnil, vcons, has_ty, WT}
use mathlib.Core.List.{[]}
use lib.Dec.{T, lit<}
use base.Logic.{ent, guard, guard_i}
use types.Logic.{Logic, sem}
use contract.Monad.{fact_use}
use denote.RawPtr.{Ptr, Testable}
use denote.Signature.{Slot, plain}
use Rattle.core.proofs.alloc.Calls.{α, Fits, token}
use Rattle.std.proofs.GlobalToken.{dealloc_token-Testable}
use Rattle.std.specs.Global.{Global}
use Rattle.std_alloc.proofs.BoxSteps.Form.{Bx, box_ty, τ}
use Rattle.std_alloc.proofs.ResultValues.{and_tt}
use Rattle.std_heap.specs.contracts.Global as Heap
use Rattle.std_heap.specs.contracts.GlobalAllocator.TheImpl.{ghosts, dict}
use Rattle.std_heap.proofs.Global.TheLaws as heap
use Rattle.sched_handle.specs.contracts.held.Held as Held
use Rattle.sched_handle.proofs.held.Held.TheLaws as held
use Rattle.sched_parts.specs.contracts.parts.Parts as Parts
use Rattle.sched_handle.specs.contracts.handle.Handle as Handle

abbrev pub E : Bx
E = record {
  row = Held.the_row;
  laws = held.the_row_laws;
  al = record { row = Heap.the_row; laws = heap.the_row_laws; g = ghosts; d = dict; drops = impl [] tnil dnil };
}

abbrev pub FromParts : Slot 0
FromParts = plain (λ _. Parts.the_row Held.the_row Heap.the_row ghosts)

abbrev pub FromHandle : Slot 0
FromHandle = plain (λ _. Handle.the_row)

-- the machine value of a handle that holds nothing
abbrev pub null_word : Val → Val
null_word hv = vstruct (vcons vnull (vcons hv vnil))

pub null_typed : (hv : Val) → Fits E.al hv → T (has_ty (box_ty E) (null_word hv)) × WT (null_word hv)
null_typed hv fa = (and_tt (has_ty (α E.al) hv) fa.0, (record { fits = lit< tt }, (fa.1, tt)))

-- the pointer of a block may be tested
module _ {M : Type 1} {𝓤 : Ura M} (𝓛 : Logic 𝓤) (a : Global) (p : Ptr) where
  pub tested : ent 𝓤 (sem 𝓛 (token E.al a (bare (τ E)) p)) (guard 𝓤 (Testable p) (sem 𝓛 (token E.al a (bare (τ E)) p)))
  tested = fact_use 𝓤 (Testable p) (dealloc_token-Testable 𝓛 a (bare (τ E)) p)
      (guard_i 𝓤 (Testable p) (sem 𝓛 (token E.al a (bare (τ E)) p)))
