-- The words of the library and of the crates below that are used here, and the crate's plain types.
pub use Rattle.nit_actor.specs.ClipRole.{ClipRole, IsPairIn, PairRole, clip_role_of, pair_role_of}
pub use Rattle.nit_actor.specs.IdleUser.{StepTogether, idle_user}
pub use Rattle.nit_actor.specs.Pictures.{IsNearPicture, IsPictureAmong, PutsShotsBehind}
pub use Rattle.nit_actor.specs.Role.{Role, UserRole, role_of, user_role_of}
pub use Rattle.nit_actor.specs.declared.pair.Pair.{Pair}
pub use Rattle.nit_capture.specs.Capture.{CaptureModel, cropped_bytes, first_capture, next_record}
pub use Rattle.nit_capture.specs.Capture.{with_last}
pub use Rattle.nit_capture.specs.Crop.{screen}
pub use Rattle.nit_capture.specs.Film.{film_header, record_of, records}
pub use Rattle.nit_capture.specs.Tiles.{IsPictureSize, most_pixels}
pub use Rattle.nit_clip.specs.ClipGrammar.{clip_phases}
pub use Rattle.nit_clip.specs.ClipSpelling.{clip_text}
pub use Rattle.nit_clip.specs.declared.call.ClipEntry.{ClipEntry}
pub use Rattle.nit_clip.specs.declared.line.ClipLine.{ClipLine}
pub use Rattle.nit_config.specs.Configuration.{Configuration, bar_rows, donation_of, member}
pub use Rattle.nit_config.specs.ConfigurationRanges.{IsRunConfiguration}
pub use Rattle.nit_config.specs.declared.config.Member.{Member}
pub use Rattle.nit_events.specs.declared.entry.Entry.{Entry}
pub use Rattle.nit_glyph.specs.Texts.{is_label, is_label_byte}
pub use Rattle.nit_hall.specs.ClipOpening.{AreFirstClipPasses, first_clip_pass, with_clip_scripts}
pub use Rattle.nit_hall.specs.ClipPass.{AreDoneClips, ClipPassModel, IsDoneClip, clip_number}
pub use Rattle.nit_hall.specs.History.{IsHistory}
pub use Rattle.nit_hall.specs.Opening.{AreBlank, IsOpening, IsSetting}
pub use Rattle.nit_hall.specs.OpeningParts.{OpeningParts}
pub use Rattle.nit_hall.specs.Pass.{AreDone, Belongs, IsDoneUser, PassModel, UserBelongs}
pub use Rattle.nit_hall.specs.Pass.{UserPassModel}
pub use Rattle.nit_hall.specs.Room.{RoomModel}
pub use Rattle.nit_hall.specs.RoomEnd.{left_word, words_left_in}
pub use Rattle.nit_hall.specs.ServedLines.{user_actions_in}
pub use Rattle.nit_journal.specs.Replay.{IsLegal, IsOpen, replay, replay_from, shots}
pub use Rattle.nit_journal.specs.Session.{Session, first_session}
pub use Rattle.nit_journal.specs.State.{State, after, buffer_size, first_state, session}
pub use Rattle.nit_journal.specs.WholeJournals.{IsWhole, action_of, user_actions_of}
pub use Rattle.nit_nested.specs.FrameLines.{frame_lines}
pub use Rattle.nit_nested.specs.FrameScript.{count_lines, first_forbidden}
pub use Rattle.nit_nested.specs.Nest.{NestModel, UnlessMemory, frame_answer, lines_of_frames}
pub use Rattle.nit_nested.specs.Nest.{nest_script, script_answer}
pub use Rattle.nit_nested.specs.declared.error.NestError.{NestError}
pub use Rattle.nit_nested.specs.declared.error.NestError.TheVariants.{Bad, Phases, TooLong}
pub use Rattle.nit_overlay.specs.Frame.{frame}
pub use Rattle.nit_paint.specs.Repaint.{IsWordOfSource}
pub use Rattle.nit_perform.specs.declared.inner.Inner.{Inner}
pub use Rattle.nit_perform.specs.declared.memory.Memory.{Memory}
pub use Rattle.nit_perform.specs.declared.opening.OpenedRounds.{OpenedRounds}
pub use Rattle.nit_perform.specs.declared.pairs.Paired.{Paired}
pub use Rattle.nit_perform.specs.declared.ran.PutFault.{PutFault}
pub use Rattle.nit_perform.specs.declared.ran.Ran.{Ran}
pub use Rattle.nit_pixels.specs.End.{BufferName, End, new_sight}
pub use Rattle.nit_plan.specs.Calls.{calls_to_make, user_actions_to_do}
pub use Rattle.nit_plan.specs.Plan.{IsPlanOf, PlanModel, plan_of_script}
pub use Rattle.nit_plan.specs.ScriptWords.{table_size, words_after}
pub use Rattle.nit_plan.specs.SessionLists.{script_in}
pub use Rattle.nit_rect.specs.Intersection.{HasPixels, LiesIn}
pub use Rattle.nit_rect.specs.Limits.{most_units}
pub use Rattle.nit_rect.specs.declared.memory.NoMemory.{NoMemory}
pub use Rattle.nit_rect.specs.declared.point.Point.{Point}
pub use Rattle.nit_report.specs.EventsText.{events_text}
pub use Rattle.nit_report.specs.Generator.{client_text, generated, is_shot_line, script_name}
pub use Rattle.nit_report.specs.JournalText.{journal_text}
pub use Rattle.nit_report.specs.Picture.{picture, picture_length}
pub use Rattle.nit_rounds.specs.Drawing.{Drawing, after_turn, drawn_shot, shot_frames_of}
pub use Rattle.nit_rounds.specs.Drawing.{shots_after, shots_of, word_from}
pub use Rattle.nit_rounds.specs.Rounds.{rounds}
pub use Rattle.nit_rounds.specs.RoundsRun.{IsRoundsRun, IsSetUp, final_name, glass_after}
pub use Rattle.nit_rounds.specs.RoundsRun.{put_state_of_desk, shot_name}
pub use Rattle.nit_rounds.specs.ShotFrames.{ShotFrame, ShowsEach}
pub use Rattle.nit_rounds.specs.Shots.{ShotsBehind}
pub use Rattle.nit_rounds.specs.Turn.{ActorLine, ByUser, LineTurn}
pub use Rattle.nit_rounds.specs.TurnActions.{AreRoundsOf, actions_of_turns, input_by_user}
pub use Rattle.nit_rounds.specs.TurnActions.{input_lines_of}
pub use Rattle.nit_rounds.specs.declared.desk.Desk.{Desk}
pub use Rattle.nit_run.specs.InnerFrames.{ShowsNest, frames_of, is_too_long, last_frame, nest_of}
pub use Rattle.nit_run.specs.OutputNames.{HasTextName, output_name}
pub use Rattle.nit_run.specs.Outputs.{AreOutputs, AreShots, HaveTables, IsJournal, ending_of}
pub use Rattle.nit_run.specs.Outputs.{events_file, events_files, events_name, final_picture}
pub use Rattle.nit_run.specs.Outputs.{journal_file, picture_by, raw_words, tables_left, text_files}
pub use Rattle.nit_run.specs.PutFiles.{PutEach, PutFiles, asking_all}
pub use Rattle.nit_run.specs.Region.{rectangle_of}
pub use Rattle.nit_run.specs.RunClips.{IsClipFile, IsClipList, clips_name}
pub use Rattle.nit_run.specs.RunFilm.{film_name, film_of, pictures_in}
pub use Rattle.nit_run.specs.RunInner.{inner_journal_name}
pub use Rattle.nit_run.specs.Setup.{IsRunnable, RunFiles, Setup, by_turns, generated_files}
pub use Rattle.nit_run.specs.Setup.{run_files, script_files, setup_of}
pub use Rattle.nit_run.specs.declared.region.Region.{Region}
pub use Rattle.nit_run.specs.declared.scripts.Scripts.{Scripts}
pub use Rattle.nit_scene.specs.RawWords.{Painted, pixel_count, source_at}
pub use Rattle.nit_scene.specs.Scene.{SceneModel, state_now}
pub use Rattle.nit_scene.specs.Screen.{IsGlass}
pub use Rattle.nit_scene.specs.StateScenery.{scenery_of}
pub use Rattle.nit_script.specs.Grammar.{most_lines}
pub use Rattle.nit_script.specs.Phases.{input_phases, is_phase, phases}
pub use Rattle.nit_script.specs.declared.line.InputLine.{InputLine}
pub use Rattle.nit_script.specs.declared.line.Line.{Line}
pub use Rattle.nit_slots.specs.Account.{IsDonation}
pub use Rattle.nit_stack.specs.Sources.{Bare, PixelSource, Size, Word, among, black_or_word}
pub use Rattle.nit_stack.specs.Sources.{buffer_place, owner, pixel, shown_index, source_under}
pub use Rattle.nit_stack.specs.declared.view.View.{View}
pub use Rattle.nit_store.specs.Puts.{PutRefusal, PutState, PutsAll, PutsFile, PutsNext, refusal_by}
pub use Rattle.nit_store.specs.Puts.{unrefused}
pub use Rattle.nit_store.specs.Store.{File, IsPut, PutIn, StoreModel, WriteFaulted, bytes_of}
pub use Rattle.nit_store.specs.Store.{file_at, with_asked}
pub use Rattle.nit_store.specs.StoreAnswers.{AfterPut, AskedAtMost}
pub use Rattle.nit_store.specs.declared.store.PutError.{PutError}
pub use Rattle.nit_word.specs.Inks.{IsWord}
pub use Rattle.nit_word.specs.Sight.{Sight}
pub use Rattle.nit_word.specs.Sights.{glass_in, no_sight}
pub use Rattle.std.specs.Fmt.{decimal}
pub use Rattle.std.specs.Global.{Global}
pub use Rattle.std.specs.List.{AllByRecursion, list_all, range_with_len}
pub use Rattle.std.specs.Option.{is_some}
pub use Rattle.std.specs.Prelude.{All, IfOk, Vec, codes, count_by, false, negsuc, pos, slice_get}
pub use Rattle.std.specs.Prelude.{slice_index, slice_index_or, true, ℤ}
pub use Rattle.std.specs.Str.{IsUtf8}
pub use Rattle.std.specs.Vec.Iter.{into_iter_items}
