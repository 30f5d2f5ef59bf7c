-- The words of the library and of the crates below that are used here, and the crate's plain types.
pub use Rattle.nit_config.specs.Configuration.{Configuration, lettered, member}
pub use Rattle.nit_glyph.specs.Lettering.{plain}
pub use Rattle.nit_config.specs.ConfigurationRanges.{IsConfiguration}
pub use Rattle.nit_config.specs.declared.config.Member.{Member}
pub use Rattle.nit_events.specs.Input.{deliveries_of, routed_as}
pub use Rattle.nit_events.specs.Ranges.{IsDevice}
pub use Rattle.nit_events.specs.declared.call.Call.{Call}
pub use Rattle.nit_events.specs.declared.call.Call.TheVariants.{Take, View}
pub use Rattle.nit_events.specs.declared.call.Reply.{Reply}
pub use Rattle.nit_events.specs.declared.entry.Entry.{Entry}
pub use Rattle.nit_events.specs.declared.event.Delivery.{Delivery}
pub use Rattle.nit_journal.specs.Deliveries.{IsLive, kills}
pub use Rattle.nit_journal.specs.Journal.{JournalModel}
pub use Rattle.nit_journal.specs.Presses.{IsDown}
pub use Rattle.nit_journal.specs.Projection.{Gets, Observation, alone, projection, replies_to}
pub use Rattle.nit_journal.specs.Projection.{reserved, views_in_use}
pub use Rattle.nit_journal.specs.Replay.{Agrees, IsLegal, IsOpen, replay, shots}
pub use Rattle.nit_journal.specs.Session.{Session, accepted, by_refusal, first_session, refusal}
pub use Rattle.nit_journal.specs.Session.{serve}
pub use Rattle.nit_journal.specs.StackAfter.{is_accepted}
pub use Rattle.nit_journal.specs.State.{State, after, first_state, route, session, session_in}
pub use Rattle.nit_overlay.specs.Frame.{Scenery, frame}
pub use Rattle.nit_screen.specs.FrameLabels.{IsFrameShown, ShowsLabels}
pub use Rattle.nit_screen.specs.RawWords.{AreInked, AreRaw, IsRawOf, Painted, pixel_count}
pub use Rattle.nit_screen.specs.RawWords.{source_at}
pub use Rattle.nit_screen.specs.Screen.{AreGlasses, IsGlass}
pub use Rattle.nit_screen.specs.StateScenery.{scenery_of}
pub use Rattle.nit_server.specs.Server.{ServerModel, state_of}
pub use Rattle.nit_server.specs.ServerInput.{MayLose, routing_of}
pub use Rattle.nit_slots.specs.Slots.{spare}
pub use Rattle.nit_stack.specs.Sources.{Bare, Black, PixelSource, Word, pixel}
pub use Rattle.nit_word.specs.Channels.{bare_word}
pub use Rattle.nit_word.specs.Inks.{IsInked, IsWord}
pub use Rattle.nit_word.specs.Sight.{Sight, stored, told_at}
pub use Rattle.nit_word.specs.Sights.{glass_in, no_sight, with_glass}
pub use Rattle.nit_word.specs.Updates.{is_between, set_where, with_words}
pub use Rattle.std.specs.Prelude.{List, map}
