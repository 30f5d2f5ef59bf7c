-- The words of the library and of the crates below that are used here, and the crate's plain types.
pub use Rattle.nit_config.specs.Configuration.{Configuration, bar_rows, lettered, member}
pub use Rattle.nit_config.specs.ConfigurationRanges.{IsConfiguration}
pub use Rattle.nit_damage.specs.Cutter.{CutterModel, FitsStack, pieces_left, to_come}
pub use Rattle.nit_events.specs.Input.{InputState, Routing, deliveries_of, forget, routed_as}
pub use Rattle.nit_events.specs.Input.{unless_it_is}
pub use Rattle.nit_events.specs.Ranges.{IsDevice}
pub use Rattle.nit_events.specs.declared.call.Call.{Call}
pub use Rattle.nit_events.specs.declared.call.Call.TheVariants.{Above, Back, Buffer, Close, Destroy}
pub use Rattle.nit_events.specs.declared.call.Call.TheVariants.{Front, Offset, Place, Refresh, Take}
pub use Rattle.nit_events.specs.declared.call.Call.TheVariants.{Title, Upgrade}
pub use Rattle.nit_events.specs.declared.call.Reply.{Reply}
pub use Rattle.nit_events.specs.declared.device.Device.{Device}
pub use Rattle.nit_events.specs.declared.device.Mode.{Mode}
pub use Rattle.nit_events.specs.declared.device.Mode.TheVariants.{Flat, Xray}
pub use Rattle.nit_events.specs.declared.entry.Entry.{Entry}
pub use Rattle.nit_events.specs.declared.event.Delivery.{Delivery}
pub use Rattle.nit_events.specs.declared.event.Event.{Event}
pub use Rattle.nit_events.specs.declared.event.Item.{Item}
pub use Rattle.nit_events.specs.declared.event.Routed.{Routed}
pub use Rattle.nit_events.specs.declared.event.Status.{Status}
pub use Rattle.nit_focus.specs.Reach.{IsForgottenIfKilled}
pub use Rattle.nit_glyph.specs.Lettering.{IsLettering, picture_height, picture_width}
pub use Rattle.nit_glyph.specs.Pictures.{text_dot}
pub use Rattle.nit_glyph.specs.declared.lettering.Lettering.{Lettering}
pub use Rattle.nit_journal.specs.Deliveries.{IsKillAlone, IsLive, is_kill, kills}
pub use Rattle.nit_journal.specs.Live.{AreLive}
pub use Rattle.nit_journal.specs.Replay.{Agrees, IsLegal, LegalFrom, replay, replay_from}
pub use Rattle.nit_journal.specs.Session.{Session, accepted, by_life, by_refusal, ended}
pub use Rattle.nit_journal.specs.Session.{first_session, has_view, receive, refusal, serve, taking}
pub use Rattle.nit_journal.specs.StackAfter.{after_accepted, after_deliveries, after_delivery}
pub use Rattle.nit_journal.specs.StackAfter.{is_accepted, new_view, with_new}
pub use Rattle.nit_journal.specs.State.{State, after, buffer_size, delivered, first_state}
pub use Rattle.nit_journal.specs.State.{input_after_call, layer, owner_of, route, session}
pub use Rattle.nit_journal.specs.State.{session_in, source_of}
pub use Rattle.nit_journal.specs.Steps.{IsFreeLabel, opened}
pub use Rattle.nit_labels.specs.Places.{OwnsArea, IsLeastPlace, owner_at}
pub use Rattle.nit_overlay.specs.Frame.{Scenery, bar_word, frame, has_dot, ink_of, is_in_picture}
pub use Rattle.nit_overlay.specs.Frame.{label_place_of, owner_word, shown, view_text, view_word}
pub use Rattle.nit_overlay.specs.Look.{draws_labels, pixel_at}
pub use Rattle.nit_overlay.specs.OwnerMap.{IsMap, IsMapOf, no_slot, number_at, number_of}
pub use Rattle.nit_paint.specs.FrameCopy.{AreSet, IsCopied}
pub use Rattle.nit_paint.specs.Pieces.{HoldBuffers, has_pixel, source_of_number}
pub use Rattle.nit_paint.specs.Repaint.{IsAmongLoads, IsWordOfSource, Repainted, loads_at}
pub use Rattle.nit_paint.specs.Repaint.{times_shown}
pub use Rattle.nit_paint.specs.Runs.{in_run}
pub use Rattle.nit_place.specs.OwnerMap.{IsNumberOf}
pub use Rattle.nit_rect.specs.Intersection.{IsApart}
pub use Rattle.nit_rect.specs.Limits.{most_height, most_slots, most_width}
pub use Rattle.nit_rect.specs.Rectangle.{Rectangle, covers, is_rectangle, rectangle, spans}
pub use Rattle.nit_rect.specs.Screen.{IsOnScreen}
pub use Rattle.nit_rect.specs.Strips.{IsScreenRectangle, times}
pub use Rattle.nit_rect.specs.declared.point.Point.{Point}
pub use Rattle.nit_repaint.specs.Painting.{CanRepaint, IsOnlyCut, IsRepaint, KeepsPainter}
pub use Rattle.nit_repaint.specs.PixelOwners.{is_word_in, owner_passes, source_in}
pub use Rattle.nit_repaint.specs.ViewChange.{IsViewChange, slot_owns_either}
pub use Rattle.nit_repaint.specs.ViewRemoval.{IsRemovedFrom, uncovered, without_session}
pub use Rattle.nit_repaint.specs.WantedPixels.{wanted}
pub use Rattle.nit_repaint.specs.declared.painter.Painter.{Painter}
pub use Rattle.nit_server.specs.Seats.{with_opened, with_reopened}
pub use Rattle.nit_server.specs.Server.{IsServed, IsServer, KeepsViews, ServerModel, size_of_buffer}
pub use Rattle.nit_server.specs.Server.{state_of}
pub use Rattle.nit_server.specs.ServerInput.{MayLose, killed_by, killed_in, routing_of, with_routed}
pub use Rattle.nit_server.specs.ViewsTaken.{with_ended, without_view, without_views}
pub use Rattle.nit_slots.specs.Account.{table_size}
pub use Rattle.nit_stack.specs.LabelPlaces.{fits, is_owner, is_view}
pub use Rattle.nit_stack.specs.Orders.{changed, moved, put_above, put_again, put_front, without}
pub use Rattle.nit_stack.specs.SourceAnswers.{word_count}
pub use Rattle.nit_stack.specs.Sources.{Bare, Black, PixelSource, Size, Word, black_or_word}
pub use Rattle.nit_stack.specs.Sources.{covering, in_bar, no_size, owner, pixel, point, shown_index}
pub use Rattle.nit_stack.specs.Sources.{source, source_under}
pub use Rattle.nit_stack.specs.Stack.{IsScreenSize, IsSlotView, IsStack, NoPair, SlotView}
pub use Rattle.nit_stack.specs.Stack.{StackModel, has_slot, is_named, is_of_session, is_slot}
pub use Rattle.nit_stack.specs.Stack.{place_of, same_slot, seat_owner, size_of, slot_view_in}
pub use Rattle.nit_stack.specs.Stack.{view_ref}
pub use Rattle.nit_stack.specs.ViewNames.{IsNamedBy, MeanSame, is_session, name_of, views_of}
pub use Rattle.nit_stack.specs.declared.view.View.{View}
pub use Rattle.nit_stack.specs.declared.view.ViewRef.{ViewRef}
pub use Rattle.nit_word.specs.Channels.{bare_word}
pub use Rattle.nit_word.specs.Inks.{IsInked, IsWord}
pub use Rattle.nit_word.specs.Sight.{Sight, seen}
pub use Rattle.nit_word.specs.Sights.{no_sight}
pub use Rattle.nit_word.specs.Updates.{is_between}
pub use Rattle.std.specs.List.{AllByRecursion, list_any, position_or_len, range_with_len}
pub use Rattle.std.specs.Option.{option_map_or}
pub use Rattle.std.specs.Prelude.{AllPairs, IfSome, IsTrue, Some, drop, false, length, map}
pub use Rattle.std.specs.Prelude.{replicate, slice_index, vec_capacity, ℕ}
