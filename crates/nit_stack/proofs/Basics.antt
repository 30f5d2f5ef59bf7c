-- What lemmas use: the words of clauses, the library's lemmas, and those of the crates below.
pub use Rattle.nit_stack.specs.Terms.{AllByRecursion, Bare, Black, HasLayer, IfSome, IsBufferSize}
pub use Rattle.nit_stack.specs.Terms.{IsNamedBy, IsSlotView, IsStack, MeanSame, NoPair, None, Point}
pub use Rattle.nit_stack.specs.Terms.{Size, SlotView, Some, StackModel, View, ViewRef, Word, among}
pub use Rattle.nit_stack.specs.Terms.{black_or_word, changed, covers, empty_stack, falls, fresh}
pub use Rattle.nit_stack.specs.Terms.{has_slot, in_bar, insert, is_named, is_of_session, is_session}
pub use Rattle.nit_stack.specs.Terms.{is_slot, is_some, is_view, layer_in, layer_of}
pub use Rattle.nit_stack.specs.Terms.{layer_of_slot_view, list_any, moved, moved_above, name_in}
pub use Rattle.nit_stack.specs.Terms.{name_of, no_size, on_view, option_map, option_map_or, owner}
pub use Rattle.nit_stack.specs.Terms.{owner_in, place_of, point, position_or_len, put_above}
pub use Rattle.nit_stack.specs.Terms.{put_again, put_back, put_front, put_own_back, put_own_front}
pub use Rattle.nit_stack.specs.Terms.{rectangle, same_name, same_slot, shown_index, size, size_of}
pub use Rattle.nit_stack.specs.Terms.{slice_get, slot_layer, slot_view, slot_view_in}
pub use Rattle.nit_stack.specs.Terms.{slot_view_layer, source, source_under, stack_model}
pub use Rattle.nit_stack.specs.Terms.{view_above, view_layer, view_ref, views_of, with_offset}
pub use Rattle.nit_stack.specs.Terms.{with_rect, with_title, without}
pub use Rattle.std.proofs.Common.{All, Bool, List, Option, [], add-one, ap, arith, cond, drop}
pub use Rattle.std.proofs.Common.{drop-cons, eqb, false, filter, find, get_or, get_or-set_other}
pub use Rattle.std.proofs.Common.{get_or-set_same, length, length-set, map, nat_le, nat_lt, not}
pub use Rattle.std.proofs.Common.{refl, replicate, set, slice_index_or, subst, suc, sym, true, zero}
pub use Rattle.std.proofs.Common.{◌∙◌}
pub use Rattle.std.proofs.lemmas.Bool.{and_parts, cond_both, eqb-true, ne_eqb}
pub use Rattle.std.proofs.lemmas.Bool.Decides.{nat_tests}
pub use Rattle.std.proofs.lemmas.Fn.{filter_same}
pub use Rattle.std.proofs.lemmas.Int.{ints, to_z-of_z}
pub use Rattle.std.proofs.lemmas.List.{get_or-map, get_or_default, length-map, length-replicate}
pub use Rattle.std.proofs.lemmas.List.{map-set}
pub use Rattle.std.proofs.lemmas.List.Elements.{All-append, All-cons, All-drop, All-filter, All-map}
pub use Rattle.std.proofs.lemmas.List.Elements.{All-nil, All-replicate, All-set, All-take}
pub use Rattle.std.proofs.lemmas.List.Folds.{find_at, list_any_at}
pub use Rattle.std.proofs.lemmas.List.Sums.{count_by-le-length, length-filter}
pub use Rattle.std.proofs.lemmas.Map.Steps.{length-le_from_distinct_below}
pub use Rattle.std.proofs.lemmas.Option.{get_or_from_slice_get, slice_get-map, slice_get_read}
pub use Rattle.std.proofs.lemmas.Option.{slice_get_within}
