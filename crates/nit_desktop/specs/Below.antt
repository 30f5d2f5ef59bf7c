-- The words of the library and of the crates below that are used here, and the crate's plain types.
pub use Rattle.nit_config.specs.Configuration.{Configuration, bar_rows, donation_of, lettered}
pub use Rattle.nit_config.specs.Configuration.{member}
pub use Rattle.nit_config.specs.ConfigurationRanges.{IsConfiguration}
pub use Rattle.nit_config.specs.declared.config.Member.{Member}
pub use Rattle.nit_events.specs.Input.{deliveries_of, first_input, routed_as}
pub use Rattle.nit_events.specs.Ranges.{IsDevice}
pub use Rattle.nit_events.specs.declared.call.Call.{Call}
pub use Rattle.nit_events.specs.declared.call.Call.TheVariants.{Above, Back, Buffer, Close, Destroy}
pub use Rattle.nit_events.specs.declared.call.Call.TheVariants.{Front, Offset, Place, Refresh, Take}
pub use Rattle.nit_events.specs.declared.call.Call.TheVariants.{Title, Upgrade}
pub use Rattle.nit_events.specs.declared.call.Reply.{Reply}
pub use Rattle.nit_events.specs.declared.device.Device.{Device}
pub use Rattle.nit_events.specs.declared.entry.Entry.{Entry}
pub use Rattle.nit_events.specs.declared.event.Delivery.{Delivery}
pub use Rattle.nit_events.specs.declared.event.Routed.{Routed}
pub use Rattle.nit_glyph.specs.Lettering.{most_picture_height}
pub use Rattle.nit_journal.specs.Deliveries.{IsLive, kills}
pub use Rattle.nit_journal.specs.Live.{AreLive}
pub use Rattle.nit_journal.specs.Replay.{Agrees}
pub use Rattle.nit_journal.specs.Session.{Answered, Session, accepted, by_refusal, ended}
pub use Rattle.nit_journal.specs.Session.{first_session, refusal, serve}
pub use Rattle.nit_journal.specs.StackAfter.{is_accepted}
pub use Rattle.nit_journal.specs.State.{State, after, first_state, input_after_call, layer, route}
pub use Rattle.nit_journal.specs.State.{owner_of, session, session_in}
pub use Rattle.nit_journal.specs.Steps.{IsFreeLabel, opened, vacant_state}
pub use Rattle.nit_journal.specs.Terms.{under_pointer}
pub use Rattle.nit_rect.specs.Limits.{most_slots}
pub use Rattle.nit_rect.specs.Rectangle.{IsPlace}
pub use Rattle.nit_screen.specs.DirtyPixels.{dirty}
pub use Rattle.nit_screen.specs.FrameLabels.{IsFrameShown, ShowsLabels}
pub use Rattle.nit_screen.specs.RawWords.{AreInked, AreRaw, IsRawOf, Painted, pixel_count}
pub use Rattle.nit_screen.specs.RawWords.{source_at}
pub use Rattle.nit_screen.specs.Screen.{AreGlasses}
pub use Rattle.nit_screen.specs.StateScenery.{scenery_of}
pub use Rattle.nit_screen.specs.Terms.{in_bar, is_session, option_map_or}
pub use Rattle.nit_screen.specs.ViewNames.{AreBelowNext, HaveOwnNames, IsNewlyNamed}
pub use Rattle.nit_server.specs.Server.{ServerModel, state_of}
pub use Rattle.nit_slots.specs.Account.{table_size}
pub use Rattle.nit_stack.specs.Sources.{PixelSource, pixel}
pub use Rattle.nit_stack.specs.declared.view.View.{View}
pub use Rattle.nit_word.specs.Channels.{bare_word}
pub use Rattle.nit_word.specs.Sight.{Sight}
pub use Rattle.std.specs.Prelude.{None, [], ℕ}
