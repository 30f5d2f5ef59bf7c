-- The words that clauses use: those that come from outside, and those of this crate.
pub use Rattle.nit_screen.specs.Below.{Above, Agrees, AllByRecursion, AreLive, AreSet, Back, Bare}
pub use Rattle.nit_screen.specs.Below.{Buffer, Call, CanRepaint, Close, Configuration, CutterModel}
pub use Rattle.nit_screen.specs.Below.{Delivery, Destroy, Device, Entry, Event, FitsStack, Flat}
pub use Rattle.nit_screen.specs.Below.{Front, HoldBuffers, InputState, IsAmongLoads}
pub use Rattle.nit_screen.specs.Below.{IsConfiguration, IsCopied, IsDevice, IsForgottenIfKilled}
pub use Rattle.nit_screen.specs.Below.{OwnsArea, IsFreeLabel, IsKillAlone, IsLeastPlace, IsLegal}
pub use Rattle.nit_screen.specs.Below.{IsLive, IsNamedBy, IsNumberOf, IsOnScreen, IsOnlyCut}
pub use Rattle.nit_screen.specs.Below.{IsRemovedFrom, IsRepaint, IsScreenRectangle, IsScreenSize}
pub use Rattle.nit_screen.specs.Below.{IsServed, IsServer, IsSlotView, IsStack, IsViewChange}
pub use Rattle.nit_screen.specs.Below.{IsWord, IsWordOfSource, Item, KeepsPainter, KeepsViews}
pub use Rattle.nit_screen.specs.Below.{LegalFrom, MayLose, MeanSame, Mode, NoPair, Offset, Painter}
pub use Rattle.nit_screen.specs.Below.{PixelSource, Place, Point, Rectangle, Refresh, Repainted}
pub use Rattle.nit_screen.specs.Below.{Reply, Routed, Routing, Scenery, ServerModel, Session, Sight}
pub use Rattle.nit_screen.specs.Below.{Size, SlotView, Some, StackModel, State, Status, Take, Title}
pub use Rattle.nit_screen.specs.Below.{Upgrade, View, ViewRef, Word, accepted, after}
pub use Rattle.nit_screen.specs.Below.{after_accepted, after_deliveries, after_delivery, bar_rows}
pub use Rattle.nit_screen.specs.Below.{bar_word, bare_word, black_or_word, buffer_size, by_life}
pub use Rattle.nit_screen.specs.Below.{by_refusal, changed, covering, covers, delivered}
pub use Rattle.nit_screen.specs.Below.{deliveries_of, draws_labels, ended, false, text_dot}
pub use Rattle.nit_screen.specs.Below.{first_session, first_state, fits, forget, frame, has_dot}
pub use Rattle.nit_screen.specs.Below.{IsLettering, Lettering, lettered}
pub use Rattle.nit_screen.specs.Below.{has_pixel, has_slot, has_view, in_bar, in_run, ink_of}
pub use Rattle.nit_screen.specs.Below.{input_after_call, is_accepted, is_in_picture, is_kill}
pub use Rattle.nit_screen.specs.Below.{is_named, is_of_session, is_owner, is_rectangle, is_session}
pub use Rattle.nit_screen.specs.Below.{is_slot, is_view, is_word_in, killed_by, killed_in, kills}
pub use Rattle.nit_screen.specs.Below.{label_place_of, layer, length, list_any, loads_at, member}
pub use Rattle.nit_screen.specs.Below.{most_height, most_slots, most_width, moved, name_of}
pub use Rattle.nit_screen.specs.Below.{new_view, no_sight, no_size, opened, option_map_or, owner}
pub use Rattle.nit_screen.specs.Below.{owner_at, owner_of, owner_passes, owner_word, picture_height}
pub use Rattle.nit_screen.specs.Below.{picture_width, pieces_left, pixel, pixel_at, place_of, point}
pub use Rattle.nit_screen.specs.Below.{position_or_len, put_above, put_again, put_front, receive}
pub use Rattle.nit_screen.specs.Below.{rectangle, refusal, replay, replay_from, replicate, route}
pub use Rattle.nit_screen.specs.Below.{routed_as, routing_of, same_slot, seat_owner, seen, serve}
pub use Rattle.nit_screen.specs.Below.{session, session_in, shown, shown_index, size_of}
pub use Rattle.nit_screen.specs.Below.{size_of_buffer, slot_owns_either, slot_view_in, source}
pub use Rattle.nit_screen.specs.Below.{source_in, source_of, source_of_number, source_under, spans}
pub use Rattle.nit_screen.specs.Below.{state_of, taking, times, times_shown, to_come, uncovered}
pub use Rattle.nit_screen.specs.Below.{unless_it_is, vec_capacity, view_ref, view_text, view_word}
pub use Rattle.nit_screen.specs.Below.{views_of, wanted, with_ended, with_new, with_opened}
pub use Rattle.nit_screen.specs.Below.{with_reopened, with_routed, without, without_session}
pub use Rattle.nit_screen.specs.Below.{without_view, without_views, word_count}
pub use Rattle.nit_screen.specs.CallKinds.{IsClean, IsOn, IsPartOf, IsQuiet}
pub use Rattle.nit_screen.specs.DirtyPixels.{dirty, dirty_by_call, is_killed, owns_either}
pub use Rattle.nit_screen.specs.DirtyPixels.{session_owns, view_owns}
pub use Rattle.nit_screen.specs.FrameLabels.{AreLabelsApart, IsLabelShown, ShowsLabels, label_width}
pub use Rattle.nit_screen.specs.LabelSlots.{AreLabelled, label_scenery}
pub use Rattle.nit_screen.specs.LabelWidths.{AreMeasured}
pub use Rattle.nit_screen.specs.MapRoom.{IsRoomFor, MapRoom}
pub use Rattle.nit_screen.specs.Below.{is_between}
pub use Rattle.nit_screen.specs.MapRow.{AreNumbered, AreSkips, IsRowOfMap, SkipsFilled}
pub use Rattle.nit_screen.specs.MapRow.{is_filled, numbered}
pub use Rattle.nit_screen.specs.Patches.{ArePatches, IsBegun, IsPatch, first_at, has, number_in}
pub use Rattle.nit_screen.specs.Patches.{AreOfViews, number_or_none}
pub use Rattle.nit_screen.specs.Below.{IsMap, IsMapOf, no_slot, number_at, number_of}
pub use Rattle.nit_screen.specs.Pixels.{ArePixels, ArePlaced, CanShow, CanShowBy, IsFrameOf}
pub use Rattle.nit_screen.specs.Pixels.{IsPartShown, IsShown, ShowsBelow, kept_frame, raw_in}
pub use Rattle.nit_screen.specs.Pixels.{raw_of, shown_by, unbarred}
pub use Rattle.nit_screen.specs.RawWords.{AreInked, AreRaw, IsInkedBy, IsRawOf, Painted}
pub use Rattle.nit_screen.specs.RawWords.{pixel_count, source_at}
pub use Rattle.nit_screen.specs.Screen.{AreGlasses, ScreenModel}
pub use Rattle.nit_screen.specs.ServedCalls.{CanAccept, CanServe, IsCallShown, LoadsNothing}
pub use Rattle.nit_screen.specs.StateScenery.{scenery_of}
pub use Rattle.nit_screen.specs.ViewNames.{AreBelowNext, HaveOwnNames, IsNewlyNamed}
pub use Rattle.nit_screen.specs.declared.screen.pixels.Pixels.{Pixels}
