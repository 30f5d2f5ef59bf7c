-- What answers use: all that lemmas use, and this crate's lemmas.
pub use Rattle.nit_c.proofs.Basics.{Goes-blank, NitServer, after, arith, c_part, dict, ghosts}
pub use Rattle.nit_c.proofs.Basics.{has_click, heap_token, held_owns, kept_row, length-set}
pub use Rattle.nit_c.proofs.Basics.{live_mark, met, nat_tests, no_part, nothing_kept, proved}
pub use Rattle.nit_c.proofs.Basics.{range_with_len, refl, says_two, seat_at, seat_count, sym}
pub use Rattle.nit_c.proofs.Basics.{the_type, to_z-of_z, ◌∙◌}
pub use Rattle.nit_c.proofs.Machine.{ !, Dict, Goes-dropped, Goes-ref, Is, Item, Lasts, Lfts, MutRef}
pub use Rattle.nit_c.proofs.Machine.{Owning, Ptr, RattleType, RawPtr, RawPtr-laws, Stays, Struct}
pub use Rattle.nit_c.proofs.Machine.{Tells, Tells-lowered, Ty, Val, a_type, agg, alloc_all}
pub use Rattle.nit_c.proofs.Machine.{and_then, arg, arg_laws, at_ret, await, blocks, bounded}
pub use Rattle.nit_c.proofs.Machine.{calls_at, calls_at_last, cell_at, closes, dcons, dnil, done}
pub use Rattle.nit_c.proofs.Machine.{drop, emp, ends_at, enter, env, exec, fact, fact_i, feq_i}
pub use Rattle.nit_c.proofs.Machine.{feq_l, first, fjoin, fld, flft, frame, framed, free_all, fsep}
pub use Rattle.nit_c.proofs.Machine.{fsplit, fsplit3, ftrue, full_share, get, get_in, glues, group}
pub use Rattle.nit_c.proofs.Machine.{heard, id⊢, impl, inst_fn, join, keep, lands_as, lands_last}
pub use Rattle.nit_c.proofs.Machine.{lasts, later, layout, layouts, lft_new, lit, lit<, load}
pub use Rattle.nit_c.proofs.Machine.{look_at, look_in, move, mut_Tells, mut_vals, named, no}
pub use Rattle.nit_c.proofs.Machine.{no_more, nothing, null_ptr, of_list, of_opd, on_entry, only}
pub use Rattle.nit_c.proofs.Machine.{opens, owned, param, param_laws, pass_all, peeks, pick, plain}
pub use Rattle.nit_c.proofs.Machine.{ptr_val, qed, raw, rawptr_Lawful, returns, rewrite, row, says}
pub use Rattle.nit_c.proofs.Machine.{sets, shape, shows, some, split, split3, stay_dropped}
pub use Rattle.nit_c.proofs.Machine.{stay_ref, stop, sub, suffices, tables, tcons, tells, through}
pub use Rattle.nit_c.proofs.Machine.{tnil, to, triple_of, u64, uint_Makes, uint_Tells, uint_vals}
pub use Rattle.nit_c.proofs.Machine.{use0, use1, val, vals, vcons, vint, vnil, vstruct, w64}
pub use Rattle.nit_c.proofs.Machine.{walk_of, whole, yes, ‵, ⊑_static, ◌$◌, ◌∵◌, ◌⊑◌, ◌⊛◌}
pub use Rattle.nit_c.proofs.Owners.{owner_in, owner_typed}
pub use Rattle.nit_c.proofs.PartLists.{damage_told, part_past, part_told}
pub use Rattle.nit_c.proofs.Plans.{all_hold, one_fails, one_more}
pub use Rattle.nit_c.proofs.Refreshes.{refreshed_by}
