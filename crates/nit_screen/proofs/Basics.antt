-- What lemmas use: the words of clauses, the library's lemmas, and those of the crates below.
pub use Rattle.nit_journal.proofs.ForCallers.{accepted_reply, refused_reply, same_config}
pub use Rattle.nit_journal.proofs.ForCallers.{serve_accepted, serve_refused}
pub use Rattle.nit_overlay.proofs.ForCallers.{flat_same, flat_shown, frame_fits, get_or-frame}
pub use Rattle.nit_overlay.proofs.ForCallers.{length-frame, renewed}
pub use Rattle.nit_paint.proofs.ForCallers.{nothing_set, other_count, repainted_none}
pub use Rattle.nit_paint.proofs.ForCallers.{repainted_same, repainted_words, set_then}
pub use Rattle.nit_place.proofs.ForCallers.{apart, fits_within, mapped_place, name_both}
pub use Rattle.nit_place.proofs.ForCallers.{pixel_owned}
pub use Rattle.nit_repaint.proofs.ForCallers.{all_of_session, all_painted, all_taken, find_moved}
pub use Rattle.nit_repaint.proofs.ForCallers.{goes, goes_painted, gone_change, gone_painted}
pub use Rattle.nit_repaint.proofs.ForCallers.{gone_room, none_left, nothing_spanned, on_screen}
pub use Rattle.nit_repaint.proofs.ForCallers.{painted_more, part_of_session, place_changed}
pub use Rattle.nit_repaint.proofs.ForCallers.{seat_here, stays, stays_clean, taken_held, taken_more}
pub use Rattle.nit_repaint.proofs.ForCallers.{taken_none, without_changed, without_moved}
pub use Rattle.nit_repaint.proofs.ForCallers.{without_none}
pub use Rattle.nit_screen.specs.Terms.{IsMapOf, IsRoomFor}
pub use Rattle.nit_screen.specs.Terms.{AreNumbered, AreSkips, IsRowOfMap, SkipsFilled, is_between}
pub use Rattle.nit_screen.specs.Terms.{is_filled, numbered, ArePatches, IsBegun, IsPatch, first_at}
pub use Rattle.nit_screen.specs.Terms.{AreOfViews, has, number_in, number_or_none}
pub use Rattle.nit_screen.specs.declared.screen.patches.Patch.{Patch}
pub use Rattle.nit_screen.specs.Terms.{Above, Agrees, AllByRecursion, AreBelowNext, AreGlasses}
pub use Rattle.nit_screen.specs.Terms.{AreInked, AreLabelled, AreLabelsApart, AreLive, AreMeasured}
pub use Rattle.nit_screen.specs.Terms.{ArePixels, ArePlaced, AreRaw, AreSet, Back, Bare, Buffer}
pub use Rattle.nit_screen.specs.Terms.{Call, CanAccept, CanRepaint, CanServe, CanShow, CanShowBy}
pub use Rattle.nit_screen.specs.Terms.{Close, Configuration, CutterModel, Delivery, Destroy, Device}
pub use Rattle.nit_screen.specs.Terms.{Entry, Event, FitsStack, Flat, Front, HaveOwnNames}
pub use Rattle.nit_screen.specs.Terms.{HoldBuffers, InputState, IsAmongLoads, IsCallShown, IsClean}
pub use Rattle.nit_screen.specs.Terms.{IsCopied, IsForgottenIfKilled, IsFrameOf, OwnsArea, IsInkedBy}
pub use Rattle.nit_screen.specs.Terms.{IsKillAlone, IsLabelShown, IsLeastPlace, IsLegal, IsLive}
pub use Rattle.nit_screen.specs.Terms.{IsMap, IsNamedBy, IsNewlyNamed, IsNumberOf, IsOn, IsOnScreen}
pub use Rattle.nit_screen.specs.Terms.{IsPartOf, IsPartShown, IsQuiet, IsRawOf, IsRemovedFrom}
pub use Rattle.nit_screen.specs.Terms.{IsRepaint, IsServed, IsServer, IsShown, IsSlotView, IsStack}
pub use Rattle.nit_screen.specs.Terms.{IsViewChange, IsWord, IsWordOfSource, Item, KeepsPainter}
pub use Rattle.nit_screen.specs.Terms.{KeepsViews, LegalFrom, MapRoom, MeanSame, Mode, NoPair}
pub use Rattle.nit_screen.specs.Terms.{Offset, Painted, Painter, PixelSource, Pixels, Place, Point}
pub use Rattle.nit_screen.specs.Terms.{Rectangle, Refresh, Repainted, Reply, Routed, Routing}
pub use Rattle.nit_screen.specs.Terms.{Scenery, ScreenModel, ServerModel, Session, ShowsBelow}
pub use Rattle.nit_screen.specs.Terms.{ShowsLabels, Sight, Size, SlotView, StackModel, State}
pub use Rattle.nit_screen.specs.Terms.{Status, Take, Title, Upgrade, View, ViewRef, Word, accepted}
pub use Rattle.nit_screen.specs.Terms.{after, after_accepted, after_deliveries, after_delivery}
pub use Rattle.nit_screen.specs.Terms.{bar_rows, bar_word, bare_word, black_or_word, buffer_size}
pub use Rattle.nit_screen.specs.Terms.{by_life, by_refusal, changed, covering, covers, delivered}
pub use Rattle.nit_screen.specs.Terms.{deliveries_of, dirty, dirty_by_call, draws_labels, text_dot}
pub use Rattle.nit_screen.specs.Terms.{IsLettering, Lettering}
pub use Rattle.nit_screen.specs.Terms.{ended, first_session, first_state, fits, forget, frame}
pub use Rattle.nit_screen.specs.Terms.{has_dot, has_pixel, has_slot, in_bar, in_run, ink_of}
pub use Rattle.nit_screen.specs.Terms.{input_after_call, is_accepted, is_in_picture, is_kill}
pub use Rattle.nit_screen.specs.Terms.{is_killed, is_named, is_of_session, is_owner, is_session}
pub use Rattle.nit_screen.specs.Terms.{is_slot, is_view, is_word_in, kept_frame, killed_by}
pub use Rattle.nit_screen.specs.Terms.{killed_in, kills, label_place_of, label_scenery, label_width}
pub use Rattle.nit_screen.specs.Terms.{layer, length, list_any, loads_at, member, moved, name_of}
pub use Rattle.nit_screen.specs.Terms.{new_view, no_sight, no_size, no_slot, number_at, number_of}
pub use Rattle.nit_screen.specs.Terms.{opened, option_map_or, owner, owner_at, owner_of}
pub use Rattle.nit_screen.specs.Terms.{owner_passes, owner_word, owns_either, picture_height}
pub use Rattle.nit_screen.specs.Terms.{picture_width, pieces_left, pixel, pixel_at, pixel_count}
pub use Rattle.nit_screen.specs.Terms.{place_of, point, position_or_len, put_above, put_again}
pub use Rattle.nit_screen.specs.Terms.{put_front, raw_in, raw_of, receive, rectangle, refusal}
pub use Rattle.nit_screen.specs.Terms.{replay, replay_from, route, routed_as, routing_of, same_slot}
pub use Rattle.nit_screen.specs.Terms.{scenery_of, seat_owner, seen, serve, session, session_in}
pub use Rattle.nit_screen.specs.Terms.{session_owns, shown, shown_by, shown_index, size_of}
pub use Rattle.nit_screen.specs.Terms.{size_of_buffer, slot_owns_either, slot_view_in, source}
pub use Rattle.nit_screen.specs.Terms.{source_at, source_in, source_of, source_of_number}
pub use Rattle.nit_screen.specs.Terms.{source_under, spans, state_of, taking, times, times_shown}
pub use Rattle.nit_screen.specs.Terms.{to_come, unbarred, uncovered, unless_it_is, view_owns}
pub use Rattle.nit_screen.specs.Terms.{view_ref, view_text, view_word, views_of, wanted, with_ended}
pub use Rattle.nit_screen.specs.Terms.{with_new, with_opened, with_reopened, with_routed, without}
pub use Rattle.nit_screen.specs.Terms.{without_session, without_view, without_views, word_count}
pub use Rattle.nit_server.proofs.ForCallers.{All-changed, All-put, IsPutIn, IsSpared, NoPair-map}
pub use Rattle.nit_server.proofs.ForCallers.{NoPair-put, NoPair-without, closed, find-alike}
pub use Rattle.nit_server.proofs.ForCallers.{find-changed, find-moved, find-put_failing}
pub use Rattle.nit_server.proofs.ForCallers.{find-spared, forgotten_again, one_less, puts_above}
pub use Rattle.nit_server.proofs.ForCallers.{puts_back, puts_front, without_same}
pub use Rattle.nit_stack.proofs.ForCallers.{All_found, Put, Put-above, Put-back, Put-front}
pub use Rattle.nit_stack.proofs.ForCallers.{agree_by, any_found, find-map, flip, found_fails}
pub use Rattle.nit_stack.proofs.ForCallers.{found_passes, found_some, has-name, list_any-map}
pub use Rattle.nit_stack.proofs.ForCallers.{map-without, owner_named, owner_of_session, place_is}
pub use Rattle.nit_stack.proofs.ForCallers.{slot_at, views_closed}
pub use Rattle.nit_word.proofs.ForCallers.{at_place, seen_none}
pub use Rattle.std.proofs.Common.{ap, arith, length-set, option_map, refl, rules, sym, ◌∙◌}
pub use Rattle.std.proofs.Math.Bool.{and-false}
pub use Rattle.std.proofs.Math.ListN.{get_or-map}
pub use Rattle.std.proofs.Math.Nat.{mul-le-mul_right, mul_comm}
pub use Rattle.std.proofs.Math.Seq.{map-set_same, take-append_seam}
pub use Rattle.std.proofs.lemmas.Bool.{and_parts, cases_Bool, cases_lt, cases_order, eqb-false}
pub use Rattle.std.proofs.lemmas.Bool.{eqb-true, false_from_ne_true, false≢true, or_parts}
pub use Rattle.std.proofs.lemmas.Bool.Decides.{nat_tests}
pub use Rattle.std.proofs.lemmas.Int.{ints}
pub use Rattle.std.proofs.lemmas.List.{drop-replicate, get_or-append_right, get_or-replicate}
pub use Rattle.std.proofs.lemmas.List.{get_or_append_left, get_or_past, get_or_read, length-map}
pub use Rattle.std.proofs.lemmas.List.{length-replicate, map-set, places}
pub use Rattle.std.proofs.lemmas.List.{replicate-append-replicate, set-get_or}
pub use Rattle.std.proofs.lemmas.List.Elements.{All-append, All-drop, All-filter, All-head, All-nil}
pub use Rattle.std.proofs.lemmas.List.Elements.{All-replicate, All-tail, All-weaker}
pub use Rattle.std.proofs.lemmas.List.Folds.{list_any_at}
pub use Rattle.std.proofs.lemmas.List.Sums.{sum_by-cons}
pub use Rattle.std.proofs.lemmas.Map.Steps.{length-le_from_distinct_below}
pub use Rattle.std.proofs.lemmas.Nat.{le-div, rows}
pub use Rattle.std.proofs.lemmas.Option.{get_or_from_slice_get, same_Some, slice_get-get_or}
pub use Rattle.std.proofs.lemmas.Option.{slice_get_within}
