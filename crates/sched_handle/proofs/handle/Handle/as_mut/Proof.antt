-- `as_mut` tests the pointer. That of a block is not null, and what lies there is lent. Where the handle holds nothing
-- it is null, and the handle is closed as it was.
use Prim.Native.Nat.{ℕ}
use Rattle.sched_parts.proofs.Walks.{◌≡◌, refl, sym, ap, ◌∙◌, List, [], ◌∷◌, lit<, Ura, named, bare, Val, of_list}
use Rattle.sched_parts.proofs.Walks.{vptr, Fml, GName, Lft, Share, ftrue, fsep, flft, fres, full_share, SProp, ent}
use Rattle.sched_parts.proofs.Walks.{emp, sep, Memory, Routine, Calls, Loops, WpFn, Logic, sem, Fun, tables, at_ret}
use Rattle.sched_parts.proofs.Walks.{‵, raw, given, ◌⊛◌, some, later, ◌$◌, ◌∵◌, !, qed, learn, move, keep, use0, use1}
use Rattle.sched_parts.proofs.Walks.{join, split, split3, pick, rewrite, fsplit, fsplit3, fjoin, feq_i, feq_l, fpack}
use Rattle.sched_parts.proofs.Walks.{frame, group, suffices, await, done, live, whole, sub, agg, look_in, bin, lit}
use Rattle.sched_parts.proofs.Walks.{stop, fld, no_more, and_then, of_opd, load, addr, first, blocks, branches, skips}
use Rattle.sched_parts.proofs.Walks.{exec, returns, enter, returns_within, alloc_all, pass_all, free_all, look_at}
use Rattle.sched_parts.proofs.Walks.{get, through, sets, env, sets_last, follows, follows_by, lends_Part, shows}
use Rattle.sched_parts.proofs.Walks.{part_at, part_of, mem, cell_at, RattleType, owns, no, Ptr, block_ptr, null_ptr}
use Rattle.sched_parts.proofs.Walks.{Testable, tests_null, MutRef, MutBor, mut_vals, mut_Tells, mut_ref_to, plain}
use Rattle.sched_parts.proofs.Walks.{nothing, opens, closes, peeks, says, Stays, stay_dropped, walk_of, ends_at}
use Rattle.sched_parts.proofs.Walks.{Clauses, Goes-spent_ref, proved, token, Some-of, none_of, Option, None, Some}
use Rattle.sched_parts.proofs.Walks.{Global, X, τ, word, box_out, box_in, handle}
use Rattle.core.specs.contracts.option.Option as OP
use Rattle.sched_handle.proofs.AsBox.{E, tested}
use Rattle.sched_handle.proofs.handle.Handle.TheLaws.{lowers}
use Rattle.sched_handle.specs.declared.handle.Handle.{Handle}
use Rattle.sched_handle.specs.contracts.held.Held.{the_row as S}
use Rattle.sched_handle.specs.contracts.handle.Handle.{the_row as R}
use Rattle.sched_handle.specs.contracts.handle.Handle.as_mut as F
use Rattle.sched_handle.proofs.handle.Handle.as_mut.Statement.{statement}
use Rattle.sched_handle.proofs.handle.Handle.as_mut.Code as code

abbrev stayed : Stays F.ended.signature.params F.ended.kept
stayed = (stay_dropped (mut_ref_to (0 ∷ []) tt (plain (λ _. R))) no, tt)

abbrev with_held : Handle → X E → Handle
with_held h x = record h { held = Some x }

module _ {M : Type 1} {𝓤 : Ura M} (𝓛 : Logic 𝓤) (at_mem : Memory → SProp 𝓤) (run : Routine → Fun 𝓤)
    (C : Calls 𝓤 𝓛.H) (Λ : Loops 𝓤 𝓛.H) (κ : Lft) (q : Share) (b o : ℕ) (γ : GName) where
  open 𝓛 use {H}

  abbrev c : Clauses 𝓤 F.ended
  c = F.clauses 𝓛 at_mem run

  abbrev z : Handle → (walk_of 𝓛 F.ended stayed c).Ghost
  z h = (((κ, tt), (q, tt), tt, (record { ref_ptr = (b, o); ghost_name = γ; now = h }, tt), (vptr b o ∷ [], tt)), tt)

  abbrev Post : Handle → Val → SProp 𝓤
  Post h = (walk_of 𝓛 F.ended stayed c).post (z h)

  abbrev Goes : Handle → Type 1
  Goes h = ent 𝓤 ((walk_of 𝓛 F.ended stayed c).pre (z h)) (WpFn 𝓤 H C Λ code.function (vptr b o ∷ []) (Post h))

  -- the handle lies here
  abbrev Cell : List Val → Fml
  Cell us = cell_at full_share R.mir us b o

  abbrev Lent : RattleType
  Lent = MutRef (named 0) κ S

  module _ (b' o' : ℕ) (hv : Val) (h : Handle) where
    -- all of the handle but what it holds
    abbrev Rest : Fml
    Rest = fsep (fsep (token E.al h.alloc (bare (τ E)) (block_ptr b' o')) (handle E h.alloc hv))
        (Cell (word E hv b' o' ∷ []))

    back : h.ptr ≡ block_ptr b' o' → (w : X E) → ent 𝓤 (sep 𝓤 (sem 𝓛 ((mem S).own_at w b' o')) (sem 𝓛 Rest))
        (sem 𝓛 ((mem R).own_at (with_held h w) b o))
    unfolding part_of
    back e w =
        qed 𝓛 (‵ (part_at S full_share w b' o') ∷ ‵ Rest ∷ []) ∵ move ! (1 ∷ []) $ fsplit ! $ fsplit ! $
        move ! (3 ∷ []) $ box_in E ! (record { ptr = h.ptr; alloc = h.alloc; value = w }) b' o' w e refl $
        move ! (1 ∷ 0 ∷ []) $ fjoin ! $
        fpack ! (List Val) (λ us. fsep (Cell us) (R.own_val (with_held h w) us)) (word E hv b' o' ∷ []) $ done !

  by_held : (p : Ptr) (a : Global) (held : Option (X E)) → Goes (record { ptr = p; alloc = a; held = held })
  unfolding follows_by
  by_held p a (Some x) =
      let h : Handle = record { ptr = p; alloc = a; held = Some x } in
      qed 𝓛 (((‵ (flft κ q) ⊛ ‵ ftrue) ⊛ ‵ (owns (MutRef (named 0) κ R ∷ []) (z h).0.3 (z h).0.4)) ∷ raw (emp 𝓤) ∷ []) ∵
      split ! $ split ! $ move ! (2 ∷ []) $ fsplit ! $ fsplit3 ! $ keep ! (1 ∷ 2 ∷ 4 ∷ []) $
      enter ! C Λ code.function (vptr b o ∷ []) _ $ alloc_all ! (λ ls. pass_all ! refl ((tt, tt), tt) $
      opens ! tt R {h = h} b o (λ us. move ! (1 ∷ []) $
      box_out E ! (record { ptr = p; alloc = a; value = x }) us (λ b' o' hv e ws fa.
      rewrite ! 3 (λ vs. ‵ (Cell vs)) ws refl $ move ! (1 ∷ []) $
      use1 𝓛 (given (Testable (block_ptr b' o')) (‵ (token E.al a (bare (τ E)) (block_ptr b' o'))))
      (tested 𝓛 a (block_ptr b' o')) $ learn ! (λ may. move ! (0 ∷ 2 ∷ []) $ fjoin ! $
      -- [the token and the allocator; what is held; the handle; the open borrow, in three entries]
      sets ! (of_opd ! (load ! (through ! refl (fld ! refl (stop !))) (look_in ! 2 (sub ! 0 refl (whole !))))) refl
      (tt, tt) $
      sets ! (of_opd ! (get ! refl)) refl (tt, tt) $ sets ! (of_opd ! (get ! refl)) refl (tt, tt) $
      sets ! (bin ! (get ! refl) (lit ! tt) (tests_null (block_ptr b' o') may)) refl (tt, tt) $
      first ! $ branches ! (get ! refl) (λ t. absurd t)
      (λ t. skips ! $ exec ! C Λ (env code.Mir.locals ls) code.Mir.t-6 (at_ret (env code.Mir.locals ls) (Post h)) $
      first ! $ blocks ! $ sets_last ! (addr ! (through ! refl (stop !))) refl (tt, tt) $
      exec ! C Λ (env code.Mir.locals ls) code.Mir.t-7 (at_ret (env code.Mir.locals ls) (Post h)) $
      let r : GName → MutBor (X E) = λ δ. record { ref_ptr = (b', o'); ghost_name = δ; now = x } in
      let w : Val = live 1 (of_list (vptr b' o' ∷ [])) in
      sets ! (of_opd ! (get ! refl)) refl (tt, tt) $
      sets ! (agg ! (and_then ! (lit ! tt) (and_then ! (get ! refl) (no_more !)))) refl
      (tt, (record { fits = lit< tt }, (tt, tt))) $
      move ! (0 ∷ 2 ∷ []) $ fjoin ! $ move ! (2 ∷ 3 ∷ 4 ∷ 1 ∷ 0 ∷ []) $ group ! 5 $
      use1 𝓛 (later (some (λ (δ : GName).
      ‵ (Lent.own_val (r δ) (vptr b' o' ∷ [])) ⊛ ‵ (flft κ q) ⊛ ‵ (follows R S γ δ (with_held h)))))
      (lends_Part 𝓛 R S (with_held h) (named 0) κ q b o b' o' γ (sem 𝓛 (Rest b' o' hv h)) (back b' o' hv h e)
      (R.coded.code h) (R.coded.code h) x) $ await ! tt $ pick ! (λ δ. split3 ! $
      use1 𝓛 (‵ ((OP.the_row Lent).own_val (Some (r δ)) (w ∷ []))) (Some-of 𝓛 Lent (r δ) (vptr b' o')) $
      returns ! (look_at ! 0 refl) $ free_all ! refl $
      suffices ! _ (ends_at 𝓛 F.ended stayed c (z h) w (Some (r δ)) (tt, tt) (tt, tt)) $ nothing ! $ nothing ! $
      fjoin ! $ join ! $ nothing ! $ move ! (2 ∷ 0 ∷ []) $ join ! $ join ! $ frame ! $ says ! refl $ done !))))))
  by_held p a None =
      let h : Handle = record { ptr = p; alloc = a; held = None } in
      qed 𝓛 (((‵ (flft κ q) ⊛ ‵ ftrue) ⊛ ‵ (owns (MutRef (named 0) κ R ∷ []) (z h).0.3 (z h).0.4)) ∷ raw (emp 𝓤) ∷ []) ∵
      split ! $ split ! $ move ! (2 ∷ []) $ fsplit ! $ fsplit3 ! $ keep ! (1 ∷ 2 ∷ 4 ∷ []) $
      enter ! C Λ code.function (vptr b o ∷ []) _ $ alloc_all ! (λ ls. pass_all ! refl ((tt, tt), tt) $
      opens ! tt R {h = h} b o (λ us. move ! (1 ∷ []) $ peeks ! R _ (shows 𝓛 R) h us (λ is. fsplit ! $
      move ! (1 ∷ []) $ feq_l ! (λ e.
      let ws = lowers.val_is h us is ∙ ap (λ (at : Ptr). lowers.lowered (record h { ptr = at }) ∷ []) e in
      let r : Val = live 0 (of_list []) in
      rewrite ! 1 (λ vs. ‵ (Cell vs)) ws refl $
      -- [what the fields own; the handle; the open borrow, in three entries]
      sets ! (of_opd ! (load ! (through ! refl (fld ! refl (stop !))) (look_in ! 1 (sub ! 0 refl (whole !))))) refl
      (tt, record { fits = lit< tt }) $
      sets ! (of_opd ! (get ! refl)) refl (tt, record { fits = lit< tt }) $
      sets ! (of_opd ! (get ! refl)) refl (tt, record { fits = lit< tt }) $
      sets ! (bin ! (get ! refl) (lit ! tt) (tests_null null_ptr (lit< tt))) refl (tt, tt) $
      first ! $ branches ! (get ! refl) (λ t.
      sets ! (agg ! (and_then ! (lit ! tt) (no_more !))) refl (tt, (record { fits = lit< tt }, tt)) $
      rewrite ! 1 (λ vs. ‵ (Cell vs)) (sym ws) refl $ feq_i ! Ptr p null_ptr e $ move ! (1 ∷ 0 ∷ []) $ fjoin ! $
      move ! (1 ∷ []) $ closes ! tt R h us b o $
      use1 𝓛 (‵ (fres γ (R.coded.code h))) (𝓛.names.obs-res γ (R.coded.code h)) $
      returns_within ! (Post h) refl (look_at ! 0 refl) $ free_all ! refl $ keep ! (0 ∷ 2 ∷ []) $
      use0 𝓛 (‵ ((OP.the_row Lent).own_val None (r ∷ []))) (none_of 𝓛 Lent) $
      suffices ! _ (ends_at 𝓛 F.ended stayed c (z h) r None (tt, tt) (tt, tt)) $ nothing ! $ nothing ! $
      fjoin ! $ join ! $ nothing ! $ move ! (3 ∷ 0 ∷ []) $ join ! $ join ! $ frame ! $ says ! refl $ done !)
      (λ t. absurd t)))))

pub as_mut_spec : {M : Type 1} → statement M
as_mut_spec 𝓤 𝓛 𝓜 𝓡 wired =
    let c = F.clauses 𝓛 𝓜.mem 𝓡.returns in let 𝓣 = tables 𝓤 𝓛.H 𝓜 𝓡 𝓡.env in
    proved 𝓛 F.ended stayed c 𝓜 𝓡 (Goes-spent_ref 𝓛 1 (0 ∷ []) tt (plain (λ _. R)), tt)
    F.Key.name code.function (code.unfolded 𝓤 𝓛.H 𝓜 𝓡 wired) (λ κs. (mut_vals, tt))
    (λ κs. (mut_Tells (named 0) κs.0 R, tt)) (λ κs qs bounds a _ are. let h = a.0.now in
    by_held 𝓛 𝓜.mem 𝓡.returns 𝓣.C 𝓣.Λ κs.0 qs.0 a.0.ref_ptr.0 a.0.ref_ptr.1 a.0.ghost_name h.ptr h.alloc h.held)
