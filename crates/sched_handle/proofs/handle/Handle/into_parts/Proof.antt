-- `into_parts` tests the pointer: that of a block is not null, and where the handle holds nothing it is.
use Rattle.sched_parts.proofs.Walks.{◌≡◌, refl, sym, subst, List, [], ◌∷◌, ◌++◌, lit<, Ura, bare, Val, vstruct}
use Rattle.sched_parts.proofs.Walks.{of_list, has_ty, SProp, ent, emp, id⊢, ftrue, fsep, Memory, Routine, WpFn}
use Rattle.sched_parts.proofs.Walks.{Tables, Logic, Fun, tables, tables_of, WpFn-mono, Item, at_ret, ‵, raw, given}
use Rattle.sched_parts.proofs.Walks.{◌⊛◌, ◌$◌, ◌∵◌, !, qed, by, learn, move, keep, drop, use0, use1, join, split}
use Rattle.sched_parts.proofs.Walks.{fsplit, fjoin, fpick, feq_l, suffices, done, live, whole, sub, agg, bin, lit}
use Rattle.sched_parts.proofs.Walks.{stop, fld, no_more, and_then, of_opd, first, branches, skips, exec, returns}
use Rattle.sched_parts.proofs.Walks.{returns_within, enter, alloc_all, pass_all, free_all, look_at, get, get_in, sets}
use Rattle.sched_parts.proofs.Walks.{env, yes, Ptr, block_ptr, null_ptr, ptr_val, Testable, tests_null, nothing}
use Rattle.sched_parts.proofs.Walks.{triple_of, entered, says, Stays, stay_dropped, walk_of, ends_at, Goes-dropped}
use Rattle.sched_parts.proofs.Walks.{walk_Meets, token, handle_tells, Some-of, none_of, Option, None, Some, Global, D}
use Rattle.sched_parts.proofs.Walks.{B, X, τ, box_ty, word, box_typed, box_out, box_in, and_tt}
use Rattle.core.specs.contracts.option.Option as OP
use Rattle.std_heap.specs.contracts.Global as Heap
use Rattle.std_heap.specs.contracts.GlobalAllocator.TheImpl.{ghosts}
use Rattle.sched_handle.proofs.AsBox.{E, FromHandle as From, null_word, null_typed, tested}
use Rattle.sched_handle.specs.contracts.held.Held as Held
use Rattle.sched_handle.specs.contracts.handle.Handle as Handle
use Rattle.sched_parts.specs.contracts.parts.Parts as Parts
use Rattle.sched_handle.specs.contracts.handle.Handle.into_parts as F
use Rattle.sched_handle.specs.contracts.handle.Handle.into_parts.Key.{name as #self}
use Rattle.sched_handle.proofs.handle.Handle.into_parts.Statement as stated
use Rattle.sched_handle.proofs.handle.Handle.into_parts.Code as code

abbrev stayed : Stays (F.ended).signature.params (F.ended).kept
stayed = (stay_dropped From yes, tt)

module _ {M : Type 1} {𝓤 : Ura M} (𝓛 : Logic 𝓤) (at_mem : Memory → SProp 𝓤) (run : Routine → Fun 𝓤)
    (𝓣 : Tables 𝓤 𝓛.H) where
  open 𝓛 use {H}

  abbrev Goes : (walk_of 𝓛 F.ended stayed (F.clauses 𝓛 at_mem run)).Ghost → Type 1
  Goes z = ent 𝓤 ((walk_of 𝓛 F.ended stayed (F.clauses 𝓛 at_mem run)).pre z)
      (WpFn 𝓤 H 𝓣.C 𝓣.Λ code.function (z.0.4.0 ++ []) ((walk_of 𝓛 F.ended stayed (F.clauses 𝓛 at_mem run)).post z))

  abbrev with_held : (walk_of 𝓛 F.ended stayed (F.clauses 𝓛 at_mem run)).Ghost → Ptr → Global → Option (X E)
      → (walk_of 𝓛 F.ended stayed (F.clauses 𝓛 at_mem run)).Ghost
  with_held z p a held = ((z.0.0, z.0.1, z.0.2, (record { ptr = p; alloc = a; held = held }, tt), z.0.4), z.1)

  by_held : (y : (walk_of 𝓛 F.ended stayed (F.clauses 𝓛 at_mem run)).Ghost) (p : Ptr) (a : Global) (held : Option (X E))
      → Goes (with_held y p a held)
  by_held y p a (Some x) =
      let z = with_held y p a (Some x) in
      let Post = (walk_of 𝓛 F.ended stayed (F.clauses 𝓛 at_mem run)).post z in
      let v : D E = record { ptr = p; alloc = a; value = x } in
      let To = Parts.the_row Held.the_row Heap.the_row ghosts in
      let made : To.Denot = record { ptr = p; alloc = a; value = x } in
      qed 𝓛 ((‵ ftrue ⊛ ‵ (fsep ((B E).own_val v z.0.4.0) ftrue)) ∷ raw (emp 𝓤) ∷ []) ∵ split ! $ drop ! $ fsplit ! $
      box_out E ! v z.0.4.0 (λ b o hv e ws fa.
      move ! (1 ∷ []) $ use1 𝓛 (given (Testable (block_ptr b o)) (‵ (token E.al a (bare (τ E)) (block_ptr b o))))
      (tested 𝓛 a (block_ptr b o)) $ learn ! (λ may.
      move ! (1 ∷ []) $ box_in E ! v b o v.value e refl $ use1 𝓛 (‵ (To.own_val made (word E hv b o ∷ []))) (id⊢ 𝓤 _) $
      move ! (1 ∷ 2 ∷ []) $ drop ! $ drop ! $
      let w = word E hv b o in
      let typed = box_typed E hv b o fa in
      let r : Val = live 1 (of_list (w ∷ [])) in
      let Γ : List (Item 𝓤) = ‵ (To.own_val made (w ∷ [])) ∷ [] in
      by ! (subst (λ (us : List Val). ent 𝓤 (types.Kit.⋆ 𝓛 Γ) (WpFn 𝓤 H 𝓣.C 𝓣.Λ code.function (us ++ []) Post)) (sym ws)
      (qed 𝓛 Γ ∵ enter ! 𝓣.C 𝓣.Λ code.function (w ∷ []) _ $ alloc_all ! (λ ls. pass_all ! refl (typed, tt) $
      sets ! (of_opd ! (get_in ! (fld ! refl (stop !)) (sub ! 0 refl (whole !)))) refl (tt, tt) $
      sets ! (of_opd ! (get_in ! (fld ! refl (stop !)) (sub ! 1 refl (whole !)))) refl fa $
      sets ! (bin ! (get ! refl) (lit ! tt) (tests_null (block_ptr b o) may)) refl (tt, tt) $
      first ! $ branches ! (get ! refl) (λ t. absurd t)
      (λ t. skips ! $ exec ! 𝓣.C 𝓣.Λ (env code.Mir.locals ls) code.Mir.t-5 (at_ret (env code.Mir.locals ls) Post) $
      sets ! (of_opd ! (get ! refl)) refl (tt, tt) $
      sets ! (agg ! (and_then ! (get ! refl) (and_then ! (get ! refl) (no_more !)))) refl typed $
      sets ! (agg ! (and_then ! (lit ! tt) (and_then ! (get ! refl) (no_more !)))) refl
      (and_tt (has_ty (box_ty E) w) typed.0, (record { fits = lit< tt }, (typed.1, tt))) $
      returns ! (look_at ! 0 refl) $ free_all ! refl $
      use1 𝓛 (‵ ((OP.the_row To).own_val (Some made) (r ∷ []))) (Some-of 𝓛 To made w) $
      suffices ! _ (ends_at 𝓛 F.ended stayed (F.clauses 𝓛 at_mem run) z r (Some made) (tt, tt) (tt, tt)) $ says ! refl $
      nothing ! $ nothing ! $ fjoin ! $ join ! $ nothing ! $ join ! $ done !))))))
  by_held y p a None =
      let z = with_held y p a None in
      let Post = (walk_of 𝓛 F.ended stayed (F.clauses 𝓛 at_mem run)).post z in
      let To = Parts.the_row Held.the_row Heap.the_row ghosts in
      let r : Val = live 0 (of_list []) in
      qed 𝓛 ((‵ ftrue ⊛ ‵ (fsep ((Handle.the_row).own_val
      (record { ptr = p; alloc = a; held = None }) z.0.4.0) ftrue)) ∷ raw (emp 𝓤) ∷ []) ∵ split ! $ drop ! $ fsplit ! $
      fsplit ! $ fpick ! (λ vss. fsplit ! $
      feq_l ! (λ ev. fsplit ! $ feq_l ! (λ ep. fsplit ! $ handle_tells E.al ! a vss.1.0 (λ hv ea fa.
      move ! (1 ∷ []) $ drop ! $ move ! (1 ∷ []) $ feq_l ! (λ en. keep ! (1 ∷ []) $
      let w = null_word hv in
      let ws : z.0.4.0 ≡ w ∷ [] =
      subst (λ (s : Ptr). z.0.4.0 ≡ vstruct (of_list (ptr_val s ∷ hv ∷ [])) ∷ []) en
      (subst (λ (ts : List Val). z.0.4.0 ≡ vstruct (of_list (ptr_val p ∷ (ts ++ []))) ∷ []) ea
      (subst (λ (ps : List Val). z.0.4.0 ≡ vstruct (of_list (ps ++ (vss.1.0 ++ []))) ∷ []) ep ev)) in
      let Γ : List (Item 𝓤) = ‵ ftrue ∷ [] in
      by ! (subst (λ (us : List Val). ent 𝓤 (types.Kit.⋆ 𝓛 Γ) (WpFn 𝓤 H 𝓣.C 𝓣.Λ code.function (us ++ []) Post)) (sym ws)
      (qed 𝓛 Γ ∵ drop ! $ enter ! 𝓣.C 𝓣.Λ code.function (w ∷ []) _ $
      alloc_all ! (λ ls. pass_all ! refl (null_typed hv fa, tt) $
      sets ! (of_opd ! (get_in ! (fld ! refl (stop !)) (sub ! 0 refl (whole !)))) refl (tt, record { fits = lit< tt }) $
      sets ! (of_opd ! (get_in ! (fld ! refl (stop !)) (sub ! 1 refl (whole !)))) refl fa $
      sets ! (bin ! (get ! refl) (lit ! tt) (tests_null null_ptr (lit< tt))) refl (tt, tt) $
      first ! $ branches ! (get ! refl)
      (λ t. sets ! (agg ! (and_then ! (lit ! tt) (no_more !))) refl (tt, (record { fits = lit< tt }, tt)) $
      returns_within ! Post refl (look_at ! 0 refl) $ free_all ! refl $
      use0 𝓛 (‵ ((OP.the_row To).own_val None (r ∷ []))) (none_of 𝓛 To) $
      suffices ! _ (ends_at 𝓛 F.ended stayed (F.clauses 𝓛 at_mem run) z r None (tt, tt) (tt, tt)) $ says ! refl $
      nothing ! $ nothing ! $ fjoin ! $ join ! $ nothing ! $ join ! $ done !)
      (λ t. absurd t)))))))))

  walk : (z : (walk_of 𝓛 F.ended stayed (F.clauses 𝓛 at_mem run)).Ghost) → Goes z
  walk z = by_held z z.0.3.0.ptr z.0.3.0.alloc z.0.3.0.held

pub into_parts_spec : {M : Type 1} → stated.statement M
unfolding tables_of
into_parts_spec 𝓤 𝓛 𝓜 𝓡 wired =
    let 𝓣 : Tables 𝓤 𝓛.H = tables_of 𝓤 𝓛.H 𝓜 (tables 𝓤 𝓛.H 𝓜 𝓡 𝓡.env) in
    entered 𝓤 𝓛.H (triple_of 𝓛 F.signature (F.spec 𝓛 𝓜.mem 𝓡.returns)) 𝓣.C 𝓣.Λ #self code.function
    (code.unfolded 𝓤 𝓛.H 𝓜 𝓡 wired)
    (walk_Meets 𝓛 F.ended stayed (Goes-dropped 𝓛 0 From yes (λ κs x f. refl), tt) (F.clauses 𝓛 𝓜.mem 𝓡.returns)
    (WpFn 𝓤 𝓛.H 𝓣.C 𝓣.Λ code.function) (WpFn-mono 𝓤 𝓛.H 𝓛.laws 𝓣 code.function)
    (walk 𝓛 𝓜.mem 𝓡.returns 𝓣))
