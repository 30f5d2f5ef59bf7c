-- The words of the library and of the crates below that are used here, and the crate's plain types.
pub use Rattle.nit_actor.specs.IdleUser.{idle_user}
pub use Rattle.nit_actor.specs.Pictures.{IsNearPicture}
pub use Rattle.nit_capture.specs.Capture.{first_capture}
pub use Rattle.nit_capture.specs.Crop.{Shows, crop, crop_pixel, screen, word_of_bytes}
pub use Rattle.nit_capture.specs.Film.{stream}
pub use Rattle.nit_capture.specs.Tiles.{IsPicture}
pub use Rattle.nit_clip.specs.ClipSpelling.{clip_text}
pub use Rattle.nit_clip.specs.declared.call.ClipEntry.{ClipEntry}
pub use Rattle.nit_config.specs.Configuration.{Configuration, donation_of, member}
pub use Rattle.nit_config.specs.Configuration.{still_configuration}
pub use Rattle.nit_config.specs.ConfigurationRanges.{IsRunConfiguration}
pub use Rattle.nit_config.specs.declared.config.Member.{Member}
pub use Rattle.nit_config.specs.declared.error.ConfigError.{ConfigError}
pub use Rattle.nit_events.specs.declared.call.Call.{Call}
pub use Rattle.nit_events.specs.declared.call.Call.TheVariants.{Buffer, Close, Take}
pub use Rattle.nit_events.specs.declared.call.Reply.{Reply}
pub use Rattle.nit_events.specs.declared.entry.Entry.{Entry}
pub use Rattle.nit_events.specs.declared.event.Event.{Event}
pub use Rattle.nit_events.specs.declared.event.Item.{Item}
pub use Rattle.nit_events.specs.declared.event.Status.{Status}
pub use Rattle.nit_journal.specs.Projection.{Calls, Gets, Observation, after_observations, alone}
pub use Rattle.nit_journal.specs.Projection.{alone_machine, projection, replies_to}
pub use Rattle.nit_journal.specs.Replay.{IsLegal, replay, shots}
pub use Rattle.nit_journal.specs.Session.{Session, accepted, by_call, by_life, by_refusal}
pub use Rattle.nit_journal.specs.Session.{by_status, first_session, receive, refusal, taking}
pub use Rattle.nit_journal.specs.StackAfter.{is_accepted}
pub use Rattle.nit_journal.specs.State.{State, after, buffer_size, first_state, owner_of, session}
pub use Rattle.nit_journal.specs.WholeJournals.{IsWhole, calls_of, done, user_actions_of}
pub use Rattle.nit_nested.specs.FrameScript.{first_forbidden, frames_behind, next_frame, woven}
pub use Rattle.nit_nested.specs.Nest.{NestModel, lines_of_frames, nest_script}
pub use Rattle.nit_nested.specs.ShownFrames.{CanPay, ShowsFrames}
pub use Rattle.nit_nested.specs.declared.error.NestError.{NestError}
pub use Rattle.nit_nested.specs.declared.error.NestError.TheVariants.{Bad, NoMemory, Phases}
pub use Rattle.nit_nested.specs.declared.error.NestError.TheVariants.{TooLong}
pub use Rattle.nit_perform.specs.CaptureRun.{HasFilmed, begun_of}
pub use Rattle.nit_perform.specs.ClipRun.{HasRunClips, clips_setup_of}
pub use Rattle.nit_perform.specs.InnerRun.{NestsRun}
pub use Rattle.nit_perform.specs.Runs.{HasRun, put_state_of_run, refusal_of}
pub use Rattle.nit_perform.specs.declared.inner.Inner.{Inner}
pub use Rattle.nit_perform.specs.declared.ran.PutFault.{PutFault}
pub use Rattle.nit_perform.specs.declared.ran.Ran.{Ran}
pub use Rattle.nit_plan.specs.Calls.{calls_in, calls_to_make, user_actions_from, user_actions_to_do}
pub use Rattle.nit_plan.specs.ScriptWords.{static, words_left}
pub use Rattle.nit_plan.specs.SessionLists.{script_in}
pub use Rattle.nit_rect.specs.Intersection.{HasPixels, LiesIn}
pub use Rattle.nit_rect.specs.Limits.{most_run_height, most_run_width}
pub use Rattle.nit_rect.specs.Rectangle.{Rectangle, rectangle, spans}
pub use Rattle.nit_rect.specs.declared.point.Point.{Point}
pub use Rattle.nit_report.specs.EntrySpelling.{event_spelling}
pub use Rattle.nit_report.specs.EventsText.{ending_text, taken}
pub use Rattle.nit_report.specs.Generator.{client_script, generated, is_shot_line, user_script}
pub use Rattle.nit_report.specs.JournalText.{ReadsJournal, journal_text}
pub use Rattle.nit_report.specs.Picture.{picture, picture_header}
pub use Rattle.nit_rounds.specs.Drawing.{Drawing, after_turn, drawn_shot, frame_of, opening_drawing}
pub use Rattle.nit_rounds.specs.Drawing.{picture_of, shot_frames_of, shots_after, shots_of}
pub use Rattle.nit_rounds.specs.Rounds.{rounds}
pub use Rattle.nit_rounds.specs.RoundsRun.{final_name}
pub use Rattle.nit_rounds.specs.ShotFrames.{ShotFrame, shot_file}
pub use Rattle.nit_rounds.specs.Turn.{ActorLine, ByClient, ByUser, LineTurn}
pub use Rattle.nit_run.specs.Headline.{AreTexts, HasPicture, Headline, HoldsAtEnd, events_among}
pub use Rattle.nit_run.specs.InnerFrames.{FirstShows, ShowsNest, frames_of, is_too_long, last_frame}
pub use Rattle.nit_run.specs.InnerFrames.{nest_of, nested_setup, shown_first}
pub use Rattle.nit_run.specs.OutputNames.{output_name}
pub use Rattle.nit_run.specs.Outputs.{AreOutputs, AreShots, IsJournal, ending_of, events_file}
pub use Rattle.nit_run.specs.Outputs.{events_files, events_name, final_picture, journal_file}
pub use Rattle.nit_run.specs.Outputs.{raw_word, tables_left, text_files}
pub use Rattle.nit_run.specs.PutFiles.{PutEach, PutFiles, asked_also, asking_all, file_names}
pub use Rattle.nit_run.specs.Region.{IsRegionWords, is_off_screen, number_end, rectangle_of}
pub use Rattle.nit_run.specs.RegionPictures.{AgreeInRegion, AllAgreeInRegion, HaveOneScreen}
pub use Rattle.nit_run.specs.RegionPictures.{word_seen}
pub use Rattle.nit_run.specs.RunClips.{IsAlwaysToldSo, IsClipFile, IsClipList, NeverHasFocus}
pub use Rattle.nit_run.specs.RunClips.{clips_name}
pub use Rattle.nit_run.specs.RunFilm.{film_name, film_of, pictures_in}
pub use Rattle.nit_run.specs.RunInner.{IsInnerJournal, inner_journal_name}
pub use Rattle.nit_run.specs.SameClient.{HaveSameEvents, IsSameClient}
pub use Rattle.nit_run.specs.SeenFrames.{HoldsInner, TellsInnerRun}
pub use Rattle.nit_run.specs.Setup.{AreLines, IsRunnable, RunFiles, Setup, by_turns}
pub use Rattle.nit_run.specs.Setup.{generated_files, generated_setup, run_files, setup_of}
pub use Rattle.nit_run.specs.Setup.{still_setup}
pub use Rattle.nit_run.specs.declared.region.Region.{Region}
pub use Rattle.nit_scene.specs.RawWords.{source_at, word_from}
pub use Rattle.nit_script.specs.Grammar.{ReadsClient, spelled}
pub use Rattle.nit_script.specs.Phases.{input_phases, phases}
pub use Rattle.nit_script.specs.Spelling.{FitsInputLine, FitsLine}
pub use Rattle.nit_script.specs.declared.line.InputLine.{InputLine}
pub use Rattle.nit_script.specs.declared.line.Line.{Line}
pub use Rattle.nit_setup.specs.Asked.{IsAloneInRange, IsBesideInRange, asks_alone, asks_beside}
pub use Rattle.nit_setup.specs.Asked.{asks_for, command_of}
pub use Rattle.nit_setup.specs.Command.{Audit, Capture, Clip, Command, Gen, Nested, NoCommand, Run}
pub use Rattle.nit_setup.specs.Command.{Still, command, starts_threads, texts}
pub use Rattle.nit_setup.specs.FilesRead.{AllFiles, AllScripts, AreAllFiles, AreAllOuterFiles}
pub use Rattle.nit_setup.specs.FilesRead.{AreAllScripts, BothFiles, FilesRead, HasRead, IsOuter}
pub use Rattle.nit_setup.specs.FilesRead.{IsSetupOf, NoFile, names_read, next_name}
pub use Rattle.nit_setup.specs.JournalFiles.{IsJournalFault, IsJournalText, IsVerdictOn}
pub use Rattle.nit_setup.specs.JournalFiles.{most_journal_bytes}
pub use Rattle.nit_setup.specs.Judgement.{AreSetup, IsRefusedWith, IsValid, Judged, MayShowFrames}
pub use Rattle.nit_setup.specs.Judgement.{Refused, clip_name, fault_code, first_other, misfit}
pub use Rattle.nit_setup.specs.Judgement.{names_in, phase_counts, reads, script_names, too_long_for}
pub use Rattle.nit_setup.specs.Judgement.{unless_other}
pub use Rattle.nit_setup.specs.Reading.{StoppedAt, StoppedBy}
pub use Rattle.nit_setup.specs.SetupRead.{StoppedReading, files_in, setup_in}
pub use Rattle.nit_setup.specs.StopNames.{first_name, name_text, second_name}
pub use Rattle.nit_setup.specs.declared.stop.End.{End}
pub use Rattle.nit_setup.specs.declared.stop.Fault.{Fault}
pub use Rattle.nit_setup.specs.declared.stop.Stop.{Stop}
pub use Rattle.nit_setup.specs.declared.stop.StopName.{StopName}
pub use Rattle.nit_setup.specs.declared.words.Asked.{Asked}
pub use Rattle.nit_stack.specs.Sources.{PixelSource, Size, Word, among, black_or_word, buffer_place}
pub use Rattle.nit_stack.specs.Sources.{index_at, pixel, shown_index, source_under}
pub use Rattle.nit_stack.specs.declared.view.View.{View}
pub use Rattle.nit_store.specs.Files.{HasDifferentNames}
pub use Rattle.nit_store.specs.Puts.{PutRefusal, PutState, PutsAll, PutsNext, unrefused}
pub use Rattle.nit_store.specs.Store.{File, Rose, StoreModel, WriteFaulted, bytes_of, file_at}
pub use Rattle.nit_store.specs.Store.{with_asked, with_said}
pub use Rattle.nit_store.specs.declared.store.PutError.{PutError}
pub use Rattle.nit_top.specs.declared.report.finish.Worked.{Worked}
pub use Rattle.nit_top.specs.declared.report.say.LinePart.{LinePart}
pub use Rattle.std.specs.Fmt.{decimal}
pub use Rattle.std.specs.List.{AllByRecursion, AllZip, flat_map, list_any, range_with_len}
pub use Rattle.std.specs.Option.{is_some}
pub use Rattle.std.specs.Prelude.{All, Contains, IfNone, IfSome, IsSomeAnd, IsTrue, codes, count_by}
pub use Rattle.std.specs.Prelude.{false, option_map, pos, slice_index, true}
