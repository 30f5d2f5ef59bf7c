-- What answers use: all that lemmas use, and this crate's lemmas.
pub use Rattle.nit_screen.proofs.Basics.{All-replicate, AreSet, Configuration, FitsStack, Flat}
pub use Rattle.nit_screen.proofs.Basics.{IsRawOf, IsRemovedFrom, IsRepaint, IsSlotView}
pub use Rattle.nit_screen.proofs.Basics.{IsViewChange, IsWord, MapRoom, Rectangle, ServerModel}
pub use Rattle.nit_screen.proofs.Basics.{SlotView, StackModel, State, all_painted, all_taken, ap}
pub use Rattle.nit_screen.proofs.Basics.{arith, bare_word, deliveries_of, false≢true}
pub use Rattle.nit_screen.proofs.Basics.{get_or-replicate, get_or_read, goes, goes_painted}
pub use Rattle.nit_screen.proofs.Basics.{gone_change, gone_painted, has-name, ints, kills}
pub use Rattle.nit_screen.proofs.Basics.{label_place_of, label_scenery, label_width, length}
pub use Rattle.nit_screen.proofs.Basics.{length-map, length-replicate, length-set, nat_tests}
pub use Rattle.nit_screen.proofs.Basics.{one_less, option_map, pieces_left, pixel, pixel_at}
pub use Rattle.nit_screen.proofs.Basics.{place_is, places, raw_of, refl, refused_reply}
pub use Rattle.nit_screen.proofs.Basics.{repainted_words, rules, seat_here, serve_refused, session}
pub use Rattle.nit_screen.proofs.Basics.{session_in, slice_get-get_or, source_of_number, state_of}
pub use Rattle.nit_screen.proofs.Basics.{stays, stays_clean, sym, taken_more, taken_none, uncovered}
pub use Rattle.nit_screen.proofs.Basics.{views_of, without_session, without_views, ◌∙◌}
pub use Rattle.nit_screen.proofs.CallsShown.{can_paint, can_paint_served, can_show_loaded}
pub use Rattle.nit_screen.proofs.CallsShown.{clean_shown, close_call, part_call, quiet_shown}
pub use Rattle.nit_screen.proofs.CallsShown.{view_call}
pub use Rattle.nit_screen.proofs.CleanCalls.{refused_state, unrefused_reply}
pub use Rattle.nit_screen.proofs.FrameLabelLemmas.{AreWritten, holds_at, labels_shown, labels_stand}
pub use Rattle.nit_screen.proofs.FrameLabelLemmas.{slot_within, written_more}
pub use Rattle.nit_screen.proofs.Handles.{keeps_below, keeps_own, named_throughout, names_anew}
pub use Rattle.nit_screen.proofs.KeptFrames.{can_paint_gone, can_paint_rest, can_stay, can_still}
pub use Rattle.nit_screen.proofs.KeptFrames.{clean_call, held_is_raw, keeps_each, keeps_inked}
pub use Rattle.nit_screen.proofs.KeptFrames.{keeps_source, no_repaint, painted_bare, part_shown}
pub use Rattle.nit_screen.proofs.KeptFrames.{quiet_call, repaint_more}
pub use Rattle.nit_screen.proofs.OneList.{bar_again, bar_is_bare, bare_unbarred, entry_painted_in}
pub use Rattle.nit_screen.proofs.OneList.{bare_word_at, flat_below, other_focus, painted_in, raw_unbarred}
pub use Rattle.nit_screen.proofs.OneViewChanges.{change_of_call, ended_painted, ended_server}
pub use Rattle.nit_screen.proofs.OneViewChanges.{gone_by_slot}
pub use Rattle.nit_screen.proofs.Basics.{AreSkips, is_between, is_filled, numbered}
pub use Rattle.nit_screen.proofs.Basics.{AreOfViews, ArePatches, IsBegun, first_at, number_in}
pub use Rattle.nit_screen.proofs.MapRows.{BandUnderWay, MapUnderWay, RowsCopied, columns_same}
pub use Rattle.nit_screen.proofs.MapRows.{map_done, next_band, next_rows, no_copy, no_map_row}
pub use Rattle.nit_screen.proofs.MapRows.{one_copy, begun_below}
pub use Rattle.nit_screen.proofs.PatchLemmas.{are_kept, full_on, next_begun, patch_at, same_dropped}
pub use Rattle.nit_screen.proofs.PatchLemmas.{and_swap, same_kept, views_next, whole}
pub use Rattle.nit_screen.proofs.OwnerMapLemmas.{all_placed, seat_slot, written}
pub use Rattle.nit_screen.proofs.ScreenLemmas.{can_relabel, few_views, kill_alone, kill_is_live}
pub use Rattle.nit_screen.proofs.ScreenLemmas.{killed_painted, killed_state, no_kill, none_dirty}
pub use Rattle.nit_screen.proofs.ScreenLemmas.{opens_below, opens_raw, opens_sources, painted_whole}
pub use Rattle.nit_screen.proofs.ScreenLemmas.{same_source, unpainted}
