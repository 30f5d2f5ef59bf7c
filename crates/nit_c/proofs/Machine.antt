-- The words of machine code, of the logic and of its steps, which the proofs by hand use.
pub use base.Fml.{flft, fsep, ftrue}
pub use base.Fraction.{full_share}
pub use base.Logic.{emp, id⊢}
pub use contract.BorrowLft.{⊑_static, ◌⊑◌}
pub use contract.Lifetimes.{Lfts}
pub use contract.Monad.{fact, fact_i}
pub use contract.Running.{tables}
pub use denote.Builtin.{u64}
pub use denote.Exit.{no, yes}
pub use denote.Laws.{Is, Tells, Typed, shows}
pub use denote.Memory.{cell_at}
pub use denote.Param.{arg, bounded, layout, layouts, param}
pub use denote.Param.Laws.{arg_laws, param_laws}
pub use denote.Param.NoDrop.{glues}
pub use denote.Plain.{uint_Makes, uint_Tells, uint_vals}
pub use denote.RattleType.{RattleType}
pub use denote.RawPtr.{Ptr, RawPtr, null_ptr, ptr_val, rawptr_Lawful}
pub use denote.Ref.{MutRef, mut_Tells, mut_vals}
pub use denote.Signature.{plain}
pub use denote.Steps.{closes, heard, nothing, only, opens, owned, peeks}
pub use denote.Struct.Laws.{RawPtr-laws, lawfuls, tells, val, vals}
pub use denote.Struct.Owning.{Owning, fields, row, shape, to}
pub use denote.Struct.OwningLaws.{Laws, Tells-lowered}
pub use denote.Struct.Struct.{Plains, Struct, Struct-Lawful, Struct-Makes}
pub use denote.Triple.Call.{calls_at, calls_at_last}
pub use denote.Triple.Clauses.{Lasts, lasts}
pub use denote.Triple.Entry.{on_entry}
pub use denote.Triple.Spec.{triple_of}
pub use denote.Triple.Table.{framed}
pub use denote.Triple.Walked.{Goes-dropped, Goes-ref, Stays, ends_at, says, stay_dropped, stay_ref}
pub use denote.Triple.Walked.{walk_of}
pub use lib.Dec.{lit<}
pub use mir.MapTy.{inst_fn}
pub use mir.Syntax.{Dict, Ty, a_type, dcons, dnil, impl, named, tcons, tnil, w64}
pub use mir.Val.{Val, of_list, vcons, vint, vnil, vstruct}
pub use seplogic.Ra.Ura.{Ura}
pub use types.ByLocal.{alloc_all, env, free_all, get, get_in, lands_as, lands_last, look_at}
pub use types.ByLocal.{pass_all, sets, through}
pub use types.Kit.{Goal, !, Item, Step, at_ret, await, done, drop, feq_i, feq_l, fjoin, frame}
pub use types.Kit.{fsplit, fsplit3, group, join, keep, later, move, pick, qed, raw, rewrite, some}
pub use types.Kit.{split, split3, step, suffices, use0, use1, ‵, ◌$◌, ◌∵◌, ◌⊛◌}
pub use types.Logic.{Logic}
pub use types.Part.{agg, look_in, sub, whole}
pub use types.Run.{and_then, blocks, enter, exec, first, fld, lit, load, no_more, of_opd, returns}
pub use types.Run.{stop}
pub use types.Tokens.{lft_new}
