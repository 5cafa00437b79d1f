-- `nothing` makes a handle of a null pointer, which owns no block.
use Rattle.sched_parts.proofs.Walks.{refl, sym, subst, List, [], ◌∷◌, ◌++◌, Ura, Val, vnull, SProp, ent, emp, id⊢}
use Rattle.sched_parts.proofs.Walks.{ftrue, fsep, Memory, Routine, WpFn, Tables, Logic, Fun, tables, tables_of}
use Rattle.sched_parts.proofs.Walks.{WpFn-mono, Item, ‵, raw, ◌⊛◌, ◌$◌, ◌∵◌, !, qed, by, move, keep, drop, use1, join}
use Rattle.sched_parts.proofs.Walks.{split, fsplit, fjoin, fpack, feq_i, suffices, done, agg, lit, no_more, and_then}
use Rattle.sched_parts.proofs.Walks.{returns, enter, alloc_all, pass_all, free_all, look_at, get, sets, yes, Valss, Ptr}
use Rattle.sched_parts.proofs.Walks.{RawPtr, null_ptr, ptr_val, plain, nothing, within, shape, to, triple_of, entered}
use Rattle.sched_parts.proofs.Walks.{says, Stays, stay_dropped, walk_of, ends_at, Goes-dropped, walk_Meets}
use Rattle.sched_parts.proofs.Walks.{handle_tells, None}
use Rattle.std_heap.specs.contracts.Global as Heap
use Rattle.sched_handle.proofs.AsBox.{E, null_word, null_typed}
use Rattle.sched_handle.specs.contracts.handle.Handle as Handle
use Rattle.sched_handle.specs.contracts.handle.Handle.nothing as F
use Rattle.sched_handle.specs.contracts.handle.Handle.nothing.Key.{name as #self}
use Rattle.sched_handle.proofs.handle.Handle.nothing.Statement as stated
use Rattle.sched_handle.proofs.handle.Handle.nothing.Code as code

abbrev stayed : Stays (F.ended).signature.params (F.ended).kept
stayed = (stay_dropped (plain (λ _. Heap.the_row)) yes, tt)

module _ {M : Type 1} {𝓤 : Ura M} (𝓛 : Logic 𝓤) (at_mem : Memory → SProp 𝓤) (run : Routine → Fun 𝓤)
    (𝓣 : Tables 𝓤 𝓛.H) where
  open 𝓛 use {H}

  walk : (z : (walk_of 𝓛 F.ended stayed (F.clauses 𝓛 at_mem run)).Ghost)
      → ent 𝓤 ((walk_of 𝓛 F.ended stayed (F.clauses 𝓛 at_mem run)).pre z)
      (WpFn 𝓤 H 𝓣.C 𝓣.Λ code.function (z.0.4.0 ++ []) ((walk_of 𝓛 F.ended stayed (F.clauses 𝓛 at_mem run)).post z))
  walk z =
      let Post = (walk_of 𝓛 F.ended stayed (F.clauses 𝓛 at_mem run)).post z in
      let a = z.0.3.0 in
      let made : (Handle.the_row).Denot = record { ptr = null_ptr; alloc = a; held = None } in
      qed 𝓛 ((‵ ftrue ⊛ ‵ (fsep ((Heap.the_row).own_val a z.0.4.0) ftrue)) ∷ raw (emp 𝓤) ∷ []) ∵ split ! $ drop ! $
      fsplit ! $
      handle_tells E.al ! a z.0.4.0 (λ hv ea fa. keep ! (0 ∷ []) $
      let w = null_word hv in
      let Γ : List (Item 𝓤) = ‵ ((Heap.the_row).own_val a (hv ∷ [])) ∷ [] in
      by ! (subst (λ (us : List Val). ent 𝓤 (types.Kit.⋆ 𝓛 Γ) (WpFn 𝓤 H 𝓣.C 𝓣.Λ code.function (us ++ []) Post)) (sym ea)
      (qed 𝓛 Γ ∵ enter ! 𝓣.C 𝓣.Λ code.function (hv ∷ []) _ $ alloc_all ! (λ ls. pass_all ! refl (fa, tt) $
      sets ! (agg ! (and_then ! (lit ! tt) (and_then ! (get ! refl) (no_more !)))) refl (null_typed hv fa) $
      returns ! (look_at ! 0 refl) $ free_all ! refl $
      feq_i ! Ptr null_ptr null_ptr refl $ nothing ! $ move ! (2 ∷ 0 ∷ []) $ fjoin ! $
      feq_i ! (List Val) (vnull ∷ []) (ptr_val null_ptr ∷ []) refl $ fjoin ! $
      feq_i ! (List Val) (w ∷ []) (w ∷ []) refl $ fjoin ! $
      fpack ! (Valss (RawPtr ∷ Heap.the_row ∷ [])) (within (shape Handle.the_type) (to Handle.the_type made) (w ∷ []))
      (vnull ∷ [], (hv ∷ [], tt)) $ fjoin ! $
      use1 𝓛 (‵ ((Handle.the_row).own_val made (w ∷ []))) (id⊢ 𝓤 _) $
      suffices ! _ (ends_at 𝓛 F.ended stayed (F.clauses 𝓛 at_mem run) z w made (tt, tt) (tt, tt)) $ says ! refl $
      nothing ! $ nothing ! $ fjoin ! $ join ! $ nothing ! $ join ! $ done !))))

pub nothing_spec : {M : Type 1} → stated.statement M
unfolding tables_of
nothing_spec 𝓤 𝓛 𝓜 𝓡 wired =
    let 𝓣 : Tables 𝓤 𝓛.H = tables_of 𝓤 𝓛.H 𝓜 (tables 𝓤 𝓛.H 𝓜 𝓡 𝓡.env) in
    entered 𝓤 𝓛.H (triple_of 𝓛 F.signature (F.spec 𝓛 𝓜.mem 𝓡.returns)) 𝓣.C 𝓣.Λ #self code.function
    (code.unfolded 𝓤 𝓛.H 𝓜 𝓡 wired)
    (walk_Meets 𝓛 F.ended stayed (Goes-dropped 𝓛 0 (plain (λ _. Heap.the_row)) yes (λ κs x f. refl), tt)
    (F.clauses 𝓛 𝓜.mem 𝓡.returns) (WpFn 𝓤 𝓛.H 𝓣.C 𝓣.Λ code.function) (WpFn-mono 𝓤 𝓛.H 𝓛.laws 𝓣 code.function)
    (walk 𝓛 𝓜.mem 𝓡.returns 𝓣))
