-- The words of the library and of the crates below that are used here, and the crate's plain types.
pub use Rattle.nit_config.specs.Configuration.{Configuration, bar_rows, donation_of, lettered}
pub use Rattle.nit_config.specs.Configuration.{member}
pub use Rattle.nit_config.specs.ConfigurationRanges.{IsConfiguration, IsMember}
pub use Rattle.nit_config.specs.declared.config.Member.{Member}
pub use Rattle.nit_desktop.specs.Desktop.{DesktopModel, IsServedEntry, asks_view}
pub use Rattle.nit_events.specs.Input.{deliveries_of, kill_button, kill_key, kill_mode, routed_as}
pub use Rattle.nit_events.specs.Input.{xray_key, xray_mode}
pub use Rattle.nit_events.specs.Ranges.{most_code}
pub use Rattle.nit_events.specs.declared.call.Call.{Call}
pub use Rattle.nit_events.specs.declared.call.Reply.{Reply}
pub use Rattle.nit_events.specs.declared.device.Device.{Device}
pub use Rattle.nit_events.specs.declared.device.Mode.{Mode}
pub use Rattle.nit_events.specs.declared.entry.Entry.{Entry}
pub use Rattle.nit_events.specs.declared.event.Delivery.{Delivery}
pub use Rattle.nit_events.specs.declared.event.Event.{Event}
pub use Rattle.nit_events.specs.declared.event.Item.{Item}
pub use Rattle.nit_events.specs.declared.event.Routed.{Routed}
pub use Rattle.nit_events.specs.declared.event.Status.{Status}
pub use Rattle.nit_glyph.specs.Lettering.{most_picture_height, most_scale, picture_height}
pub use Rattle.nit_glyph.specs.Texts.{is_label}
pub use Rattle.nit_host.specs.declared.client.Client.{Client}
pub use Rattle.nit_host.specs.declared.client.Turns.{Turns}
pub use Rattle.nit_host.specs.declared.host.touch.Touch.{Touch}
pub use Rattle.nit_host.specs.declared.planning.ScreenPlan.{ScreenPlan}
pub use Rattle.nit_host.specs.declared.planning.SeatPlan.{SeatPlan}
pub use Rattle.nit_host.specs.declared.refusal.PlanError.{PlanError}
pub use Rattle.nit_host.specs.declared.refusal.Uncopied.{Uncopied}
pub use Rattle.nit_host.specs.declared.refusal.Unseated.{Unseated}
pub use Rattle.nit_host.specs.declared.refusal.Unserved.{Unserved}
pub use Rattle.nit_journal.specs.Deliveries.{is_kill, kills}
pub use Rattle.nit_journal.specs.Live.{AreLive}
pub use Rattle.nit_journal.specs.Replay.{Agrees}
pub use Rattle.nit_journal.specs.Session.{Answered, Session, accepted, answered, by_life}
pub use Rattle.nit_journal.specs.Session.{by_refusal, by_status, first_session, has_view, receive}
pub use Rattle.nit_journal.specs.Session.{refusal, serve, taking}
pub use Rattle.nit_journal.specs.StackAfter.{after_accepted, after_deliveries, is_accepted}
pub use Rattle.nit_journal.specs.State.{IsClickAt, State, after, buffer_size, clicks_on, delivered}
pub use Rattle.nit_journal.specs.State.{first_state, input_after_call, layer, owner_of, route}
pub use Rattle.nit_journal.specs.State.{session, session_in, source_of}
pub use Rattle.nit_journal.specs.Steps.{Foremost, IsFreeLabel, IsStepOf, Opens, Rearmost, Restacks}
pub use Rattle.nit_journal.specs.Steps.{Serves, Side, Step, after_step, opened, relabelled}
pub use Rattle.nit_journal.specs.Steps.{restacked, vacant_state}
pub use Rattle.nit_journal.specs.Terms.{AreSteps, Flat, Gets, IsDown, IsLive, Kill, KillsPointed}
pub use Rattle.nit_journal.specs.Terms.{Observation, TellsFocus, TellsLeave, Xray, after_steps}
pub use Rattle.nit_journal.specs.Terms.{first_input, is_button, is_held, is_key, is_mode_key}
pub use Rattle.nit_journal.specs.Terms.{opening_of, projection, replies_from, replies_to}
pub use Rattle.nit_journal.specs.Terms.{since_opening, to, under_pointer}
pub use Rattle.nit_look.specs.Area.{HasPlaces, IsAreaOf, has_place, rectangle_over}
pub use Rattle.nit_look.specs.Copy.{is_in_rows}
pub use Rattle.nit_look.specs.Look.{AgreeIn, AgreeOutside, CoversChange, IsTouched, LiesOn}
pub use Rattle.nit_look.specs.Look.{place_at}
pub use Rattle.nit_look.specs.Parts.{AreParts, IsAreaAdded, has_any}
pub use Rattle.nit_look.specs.Putting.{IsPartPut, has_room}
pub use Rattle.nit_look.specs.declared.area.Area.{Area}
pub use Rattle.nit_overlay.specs.Frame.{bar_word, frame, shown}
pub use Rattle.nit_overlay.specs.Terms.{is_some}
pub use Rattle.nit_paint.specs.Repaint.{IsWordOfSource}
pub use Rattle.nit_rect.specs.Limits.{least_units, most_height, most_length, most_sessions}
pub use Rattle.nit_rect.specs.Limits.{most_slots, most_units, most_width}
pub use Rattle.nit_rect.specs.Rectangle.{IsPlace, Rectangle, covers, is_rectangle, rectangle, spans}
pub use Rattle.nit_rect.specs.declared.point.Point.{Point}
pub use Rattle.nit_repaint.specs.PixelOwners.{is_word_in}
pub use Rattle.nit_report.specs.JournalText.{journal_text}
pub use Rattle.nit_screen.specs.DirtyPixels.{dirty, dirty_by_call, is_killed, is_owned_by}
pub use Rattle.nit_screen.specs.DirtyPixels.{owns_either, session_owns, shows_part}
pub use Rattle.nit_screen.specs.FrameLabels.{IsFrameShown, ShowsLabels}
pub use Rattle.nit_screen.specs.RawWords.{Painted, pixel_count, source_at, word_from, words_of}
pub use Rattle.nit_screen.specs.Screen.{AreGlasses}
pub use Rattle.nit_screen.specs.StateScenery.{scenery_of}
pub use Rattle.nit_slots.specs.Account.{table_size}
pub use Rattle.nit_stack.specs.LabelPlaces.{is_view}
pub use Rattle.nit_stack.specs.Orders.{moved, put_back, put_front, without}
pub use Rattle.nit_stack.specs.Sources.{Bare, Black, PixelSource, Size, Word, among, black_or_word}
pub use Rattle.nit_stack.specs.Sources.{buffer_place, in_bar, index_at, owner, pixel, point}
pub use Rattle.nit_stack.specs.Sources.{shown_index, source_under}
pub use Rattle.nit_stack.specs.Stack.{NoPair, falls}
pub use Rattle.nit_stack.specs.ViewNames.{is_session}
pub use Rattle.nit_stack.specs.declared.view.View.{View}
pub use Rattle.nit_word.specs.Channels.{bare_word}
pub use Rattle.nit_word.specs.Inks.{IsWord}
pub use Rattle.nit_word.specs.Sight.{IsLoaded, Sight, plain_sight, seen, told_words}
pub use Rattle.nit_word.specs.Sights.{glass_in, no_sight}
pub use Rattle.nit_word.specs.Updates.{is_between, set_where}
pub use Rattle.nit_word.specs.Zeros.{filled_up, zeros}
pub use Rattle.std.specs.List.{enumerate_from, list_all, list_any, position_or_len, range_with_len}
pub use Rattle.std.specs.Option.{option_map, option_map_or}
pub use Rattle.std.specs.Prelude.{All, slice_index}
