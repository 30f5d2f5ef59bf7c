-- The words of the library and of the crates below that are used here, and the crate's plain types.
pub use Rattle.nit_actor.specs.History.{AreOfOneHistory, IsHeldPicture}
pub use Rattle.nit_actor.specs.IdleUser.{idle_user}
pub use Rattle.nit_actor.specs.Pictures.{AreNearShots}
pub use Rattle.nit_capture.specs.Crop.{crop_bytes, screen, word_of_bytes}
pub use Rattle.nit_capture.specs.Film.{stream}
pub use Rattle.nit_clip.specs.ClipGrammar.{clip_phases}
pub use Rattle.nit_clip.specs.ClipSpelling.{clip_text}
pub use Rattle.nit_clip.specs.LegalClips.{IsLegalClips, before_final}
pub use Rattle.nit_clip.specs.WholeClips.{IsWholeClips, clips_to_make}
pub use Rattle.nit_clip.specs.declared.call.ClipEntry.{ClipEntry}
pub use Rattle.nit_clip.specs.declared.line.ClipLine.{ClipLine}
pub use Rattle.nit_config.specs.Configuration.{Configuration, bar_rows, donation_of, member}
pub use Rattle.nit_config.specs.Configuration.{still_configuration}
pub use Rattle.nit_config.specs.ConfigurationRanges.{IsRunConfiguration}
pub use Rattle.nit_events.specs.Input.{InputState, Routing, deliveries_of, first_press, focusing}
pub use Rattle.nit_events.specs.Input.{hovering, ignored, is_button, is_held, killing, leaving}
pub use Rattle.nit_events.specs.Input.{letting_go, moving, pointer_after, press, pressing, received}
pub use Rattle.nit_events.specs.Input.{release, routed_as, routing, switching, to, with_held}
pub use Rattle.nit_events.specs.Ranges.{IsCode}
pub use Rattle.nit_events.specs.declared.call.Call.{Call}
pub use Rattle.nit_events.specs.declared.call.Call.TheVariants.{Buffer, Close, Take, Upgrade}
pub use Rattle.nit_events.specs.declared.call.Reply.{Reply}
pub use Rattle.nit_events.specs.declared.device.Device.{Device}
pub use Rattle.nit_events.specs.declared.device.Mode.{Mode}
pub use Rattle.nit_events.specs.declared.device.Mode.TheVariants.{Flat, Kill, Xray}
pub use Rattle.nit_events.specs.declared.entry.Entry.{Entry}
pub use Rattle.nit_events.specs.declared.event.Delivery.{Delivery}
pub use Rattle.nit_events.specs.declared.event.Event.{Event}
pub use Rattle.nit_events.specs.declared.event.Item.{Item}
pub use Rattle.nit_events.specs.declared.event.Routed.{Routed}
pub use Rattle.nit_events.specs.declared.event.Status.{Status}
pub use Rattle.nit_glyph.specs.Texts.{is_label, is_label_byte}
pub use Rattle.nit_hall.specs.History.{IsHeld}
pub use Rattle.nit_hall.specs.NearWords.{IsNear}
pub use Rattle.nit_journal.specs.Deliveries.{IsLive}
pub use Rattle.nit_journal.specs.Presses.{IsDown}
pub use Rattle.nit_journal.specs.Projection.{Calls, Gets, Observation, after_observations, alone}
pub use Rattle.nit_journal.specs.Projection.{alone_machine, items_to, own_machine, projection}
pub use Rattle.nit_journal.specs.Projection.{replies_to}
pub use Rattle.nit_journal.specs.Reach.{KillsPointed, TellsFocus, TellsLeave, is_key, is_mode_key}
pub use Rattle.nit_journal.specs.Reach.{under_pointer}
pub use Rattle.nit_journal.specs.Replay.{Agrees, IsLegal, IsOpen, LegalFrom, replay, replay_from}
pub use Rattle.nit_journal.specs.Replay.{shots}
pub use Rattle.nit_journal.specs.Session.{Answered, Session, accepted, by_call, by_life, by_quota}
pub use Rattle.nit_journal.specs.Session.{by_refusal, by_status, first_session, is_side, receive}
pub use Rattle.nit_journal.specs.Session.{refusal, serve, taking, unless, ◌orelse◌}
pub use Rattle.nit_journal.specs.StackAfter.{is_accepted}
pub use Rattle.nit_journal.specs.State.{State, after, clicks_on, first_state, input_after_call}
pub use Rattle.nit_journal.specs.State.{owner_of, session}
pub use Rattle.nit_journal.specs.WholeJournals.{Does, Ends, IsWhole, Shoots, UserAction, action_of}
pub use Rattle.nit_journal.specs.WholeJournals.{calls_of, done, to_do, user_actions_of}
pub use Rattle.nit_nested.specs.FrameScript.{count_lines}
pub use Rattle.nit_nested.specs.Nest.{NestModel, lines_of_frames, nest_script}
pub use Rattle.nit_nested.specs.ShownFrames.{CanPay, ShowsFrames}
pub use Rattle.nit_overlay.specs.Frame.{Scenery, frame, shown}
pub use Rattle.nit_plan.specs.Calls.{calls_from, calls_to_make, user_actions_from}
pub use Rattle.nit_plan.specs.Calls.{user_actions_to_do}
pub use Rattle.nit_plan.specs.ScriptWords.{words_left}
pub use Rattle.nit_plan.specs.SessionLists.{script_in}
pub use Rattle.nit_rect.specs.Intersection.{HasPixels, LiesIn}
pub use Rattle.nit_rect.specs.Limits.{most_height, most_width}
pub use Rattle.nit_rect.specs.Rectangle.{Rectangle, rectangle}
pub use Rattle.nit_report.specs.EventsText.{events_text, taken}
pub use Rattle.nit_report.specs.Generator.{client_script, client_text, config_text}
pub use Rattle.nit_report.specs.Generator.{generated_configuration, is_call, is_device}
pub use Rattle.nit_report.specs.Generator.{is_shot_line, script_name, user_script, user_text}
pub use Rattle.nit_report.specs.JournalText.{FitsDelivery, FitsEntry, FitsEvent, FitsItem}
pub use Rattle.nit_report.specs.JournalText.{FitsReply, ReadsJournal, journal_text}
pub use Rattle.nit_report.specs.Picture.{picture}
pub use Rattle.nit_report.specs.declared.events.Ending.{Ending}
pub use Rattle.nit_rounds.specs.Drawing.{Drawing, after_turn, drawn, frame_of, opening_drawing}
pub use Rattle.nit_rounds.specs.Drawing.{picture_of, shot_frames_of, shots_after, shots_of}
pub use Rattle.nit_rounds.specs.Drawing.{word_from, words_of}
pub use Rattle.nit_rounds.specs.Rounds.{rounds}
pub use Rattle.nit_rounds.specs.RoundsRun.{final_name, picture_name, shot_name}
pub use Rattle.nit_rounds.specs.Shots.{AreShotsOf, IsDrawnPicture, ShotsBehind, drawn_by_shot}
pub use Rattle.nit_rounds.specs.Turn.{ActorLine, ByClient, ByUser, LineTurn}
pub use Rattle.nit_rounds.specs.TurnActions.{AreRoundsOf, actions_of_turns, input_by_user}
pub use Rattle.nit_rounds.specs.TurnActions.{input_lines_of}
pub use Rattle.nit_run.specs.declared.output.LabelBytes.{LabelBytes}
pub use Rattle.nit_run.specs.declared.output.Output.{Output}
pub use Rattle.nit_run.specs.declared.region.Region.{Region}
pub use Rattle.nit_scene.specs.RawWords.{pixel_count, source_at}
pub use Rattle.nit_scene.specs.StateScenery.{scenery_of}
pub use Rattle.nit_script.specs.Grammar.{most_lines}
pub use Rattle.nit_script.specs.Phases.{input_phases, is_phase, phases}
pub use Rattle.nit_script.specs.Spelling.{FitsCall, FitsDevice, FitsInputLine, FitsLine}
pub use Rattle.nit_script.specs.declared.line.InputLine.{InputLine}
pub use Rattle.nit_script.specs.declared.line.Line.{Line}
pub use Rattle.nit_slots.specs.Account.{buffer_left, buffer_need}
pub use Rattle.nit_stack.specs.Sources.{Word, owner, pixel, point}
pub use Rattle.nit_stack.specs.declared.view.View.{View}
pub use Rattle.nit_store.specs.Files.{HasDifferentNames, have_different_names}
pub use Rattle.nit_store.specs.Store.{File, IsPut, StoreModel, file_at, with_asked}
pub use Rattle.nit_word.specs.Sight.{Sight}
pub use Rattle.nit_word.specs.Sights.{glass_in}
pub use Rattle.std.specs.Fmt.{decimal}
pub use Rattle.std.specs.Global.{Global}
pub use Rattle.std.specs.List.{AllByRecursion, AllZip, flat_map, list_all, range_with_len}
pub use Rattle.std.specs.Prelude.{All, Contains, List, Vec, codes, count_by, filter, fold}
pub use Rattle.std.specs.Prelude.{option_map, slice_get, slice_index, slice_index_or, take, ℕ}
pub use Rattle.std.specs.Str.{IsAscii, IsUtf8, bytes_eq}
