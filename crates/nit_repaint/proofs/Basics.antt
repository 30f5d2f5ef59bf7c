-- What lemmas use: the words of clauses, the library's lemmas, and those of the crates below.
pub use Rattle.nit_damage.proofs.ForCallers.{owned_is}
pub use Rattle.nit_overlay.proofs.ForCallers.{get_or-frame, length-frame}
pub use Rattle.nit_paint.proofs.ForCallers.{column_of, nothing_set, other_count, repainted_none}
pub use Rattle.nit_paint.proofs.ForCallers.{repainted_same, repainted_union, row_of, set_same}
pub use Rattle.nit_paint.proofs.ForCallers.{set_then}
pub use Rattle.nit_rect.proofs.ForCallers.{IsSpanned, le_tested, same_tests, spans_holds}
pub use Rattle.nit_rect.proofs.ForCallers.{spans_tells}
pub use Rattle.nit_repaint.specs.Terms.{AreSet, CanPaint, CoversBoth, CutterModel, FitsStack}
pub use Rattle.nit_repaint.specs.Terms.{HoldBuffers, IsOnScreen, IsRemovedFrom, IsRepaint, IsStack}
pub use Rattle.nit_repaint.specs.Terms.{IsViewChange, LetteredLook, NoPair, Painter, PixelSource, Point}
pub use Rattle.nit_repaint.specs.Terms.{Rectangle, Repainted, Sight, SlotView, StackModel, View}
pub use Rattle.nit_repaint.specs.Terms.{ViewRef, among, black_or_word, buffer_place, changed}
pub use Rattle.nit_repaint.specs.Terms.{covered, covers, frame, has_come, has_pixel, in_bar}
pub use Rattle.nit_repaint.specs.Terms.{index_at, is_behind, is_index_in, is_of_moved}
pub use Rattle.nit_repaint.specs.Terms.{is_of_session, is_owned, is_slot, is_to_come, is_wanted}
pub use Rattle.nit_repaint.specs.Terms.{is_word_in, list_any, moved, moved_above, on_view, once}
pub use Rattle.nit_repaint.specs.Terms.{option_map_or, owner_in, owner_passes, pieces_left, pixel}
pub use Rattle.nit_repaint.specs.Terms.{place_of, point, position_or_len, put_above, put_again}
pub use Rattle.nit_repaint.specs.Terms.{put_own_back, put_own_front, rectangle, same_slot, scenery}
pub use Rattle.nit_repaint.specs.Terms.{seen, shown_at, shown_index, size_of, slot_owns_either}
pub use Rattle.nit_repaint.specs.Terms.{slot_view_covers, slot_view_in, slot_view_layer, source_in}
pub use Rattle.nit_repaint.specs.Terms.{source_of_number, source_under, spans, times, to_come}
pub use Rattle.nit_repaint.specs.Terms.{uncovered, views_of, wanted, wanted_of_first, wants}
pub use Rattle.nit_repaint.specs.Terms.{with_offset, with_rect, without, without_session}
pub use Rattle.nit_stack.proofs.ForCallers.{Put, Put-above, Put-back, Put-front, drop_at}
pub use Rattle.nit_stack.proofs.ForCallers.{found_fails, found_passes, found_some, owner_of_views}
pub use Rattle.nit_stack.proofs.ForCallers.{place_is}
pub use Rattle.std.proofs.Common.{ap, arith, eqb-true, length, ne_eqb, refl, sym, true, ◌∙◌}
pub use Rattle.std.proofs.lemmas.Bool.{and_parts, false_from_ne_true}
pub use Rattle.std.proofs.lemmas.Bool.Decides.{nat_tests}
pub use Rattle.std.proofs.lemmas.Grind.{same_number_lists}
pub use Rattle.std.proofs.lemmas.Int.{ints}
pub use Rattle.std.proofs.lemmas.List.{drop_all, with_items_is}
pub use Rattle.std.proofs.lemmas.List.Folds.{list_any_at}
pub use Rattle.std.proofs.lemmas.Nat.{rows}
pub use Rattle.std.proofs.lemmas.Option.{get_or_from_slice_get, same_Some, slice_get_within}
