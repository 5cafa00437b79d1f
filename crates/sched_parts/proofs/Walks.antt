-- What proofs by hand cite of the kit, of functions between a box and its pointer.
pub use mathlib.Core.List.{List, [], ◌∷◌, ◌++◌}
pub use mathlib.Core.Path.{◌≡◌, refl, sym, subst, ap, ◌∙◌}
pub use lib.Dec.{lit<, T}
pub use seplogic.Ra.Ura.{Ura}
pub use mir.MapTy.{inst_fn}
pub use mir.Raw.{raw as bare}
pub use mir.Syntax.{Fn, Body, place, copy, assign, rv_opd, seq, return, Args, Dict, a_type, dcons, dnil, named}
pub use mir.Val.{Val, vstruct, of_list, has_ty, vnull, vptr, WT}
pub use base.Fml.{Fml, GName, Lft, Share, ftrue, fsep, flft, fres}
pub use base.Fraction.{full_share}
pub use base.Logic.{SProp, ent, emp, id⊢, guard, guard_i, never, fst∗, sep}
pub use prog.Memory.{Memory}
pub use prog.Routine.{Routine}
pub use prog.Wp.{Calls, Loops, WpFn, Tables}
pub use types.ByLocal.{alloc_all, pass_all, free_all, look_at, get, get_in, sets, env, lands_last, lands_as, through}
pub use types.ByLocal.{sets_last}
pub use types.Kit.{Item, at_ret, ‵, raw, given, ◌⊛◌, ◌$◌, ◌∵◌, !, qed, by, learn, move, keep, drop, use0, use1, join}
pub use types.Kit.{split, fsplit, fjoin, fpick, feq_l, suffices, done, fpack, feq_i, some, later, split3, pick, rewrite}
pub use types.Kit.{await, fsplit3, frame, group}
pub use types.Logic.{Logic, sem}
pub use types.Match.{live}
pub use types.Part.{whole, sub, agg, look_in}
pub use types.Run.{bin, lit, stop, fld, no_more, and_then, of_opd, first, branches, skips, exec, returns}
pub use types.Run.{returns_within, enter, blocks, load, addr}
pub use contract.BorrowLft.{◌⊑◌}
pub use contract.Monad.{Fun, fact_use, fact}
pub use contract.Running.{tables}
unfoldable pub use contract.Running.{tables_of}
pub use sound.WpLaws.{WpFn-mono, fm_of}
pub use denote.Exit.{yes, no}
pub use denote.Follow.{follows, lends_Part}
unfoldable pub use denote.Follow.{follows_by}
pub use denote.Laws.{shows}
pub use denote.Memory.{part_at, mem, cell_at}
unfoldable pub use denote.Memory.{part_of}
pub use denote.Param.{bounded}
pub use denote.RattleType.{Valss, RattleType, owns}
pub use denote.RawPtr.{Ptr, block_ptr, null_ptr, ptr_val, Testable, tests_null, RawPtr, in_a_block}
pub use denote.Ref.{MutRef, MutBor, mut_vals, mut_Tells}
pub use denote.Signature.{plain, type_at, mut_ref_to}
pub use denote.Steps.{nothing, heard, only, opens, closes, peeks}
pub use denote.Struct.Owning.{shape, to}
pub use denote.Struct.Struct.{within}
pub use denote.Struct.Tuple.{Tuple}
pub use denote.Triple.Call.{calls_at_last, calls_at}
pub use denote.Triple.Clauses.{Ended, Clauses}
pub use denote.Triple.Spec.{triple_of}
pub use denote.Triple.Statement.{Triple, Contract}
pub use denote.Triple.Table.{entered}
pub use denote.Triple.Walked.{says, Stays, stay_dropped, walk_of, ends_at, Goes-dropped, Goes-spent_ref, walk_Meets}
pub use Rattle.core.proofs.alloc.Calls.{token, handle_tells, Goes-blank}
pub use Rattle.core.proofs.option.Made.{Some-of, none_of}
pub use Rattle.core.specs.declared.option.Option.{Option}
pub use Rattle.core.specs.declared.option.Option.TheVariants.{None, Some}
pub use Rattle.std.proofs.GlobalToken.{dealloc_token-Testable}
pub use Rattle.std.proofs.raw_atomic.Walks.{proved}
pub use Rattle.std.specs.Global.{Global}
pub use Rattle.std_alloc.proofs.BoxSteps.Form.{D, B, X, τ, box_ty, word, box_typed, Bx, R, P, args, handle}
pub use Rattle.std_alloc.proofs.BoxSteps.Steps.{box_out, box_in}
pub use Rattle.std_alloc.proofs.ResultValues.{and_tt}
pub use Rattle.std_alloc.specs.Box.Ownership.{box_owns}
