-- The words that clauses use: those that come from outside, and those of this crate.
pub use Rattle.nit_perform.specs.Below.{ActorLine, AfterPut, All, AllByRecursion, AreBlank, AreDone}
pub use Rattle.nit_perform.specs.Below.{AreDoneClips, AreFirstClipPasses, AreRoundsOf, AreShots}
pub use Rattle.nit_perform.specs.Below.{AskedAtMost, Bad, Bare, Belongs, ByUser, CaptureModel}
pub use Rattle.nit_perform.specs.Below.{ClipLine, ClipPassModel, ClipRole, Configuration, Desk}
pub use Rattle.nit_perform.specs.Below.{Drawing, End, Entry, File, Global, HasTextName, HaveTables}
pub use Rattle.nit_perform.specs.Below.{IfOk, InputLine, IsDonation, IsDoneClip, IsDoneUser}
pub use Rattle.nit_perform.specs.Below.{IsGlass, IsHistory, IsJournal, IsLegal, IsNearPicture}
pub use Rattle.nit_perform.specs.Below.{IsOpen, IsOpening, IsPairIn, IsPictureAmong, IsPlanOf}
pub use Rattle.nit_perform.specs.Below.{IsPut, IsRoundsRun, IsRunConfiguration, IsRunnable, IsSetUp}
pub use Rattle.nit_perform.specs.Below.{IsSetting, IsUtf8, IsWhole, IsWord, IsWordOfSource, Line}
pub use Rattle.nit_perform.specs.Below.{LineTurn, Member, NestError, NestModel, NoMemory}
pub use Rattle.nit_perform.specs.Below.{OpenedRounds, OpeningParts, Painted, Pair, PairRole}
pub use Rattle.nit_perform.specs.Below.{PassModel, Phases, PixelSource, PlanModel, Point, PutEach}
pub use Rattle.nit_perform.specs.Below.{PutError, PutFault, PutFiles, PutIn, PutRefusal, PutState}
pub use Rattle.nit_perform.specs.Below.{PutsAll, PutsFile, PutsNext, PutsShotsBehind, Ran, Region}
pub use Rattle.nit_perform.specs.Below.{Role, RoomModel, RunFiles, SceneModel, Session, Setup}
pub use Rattle.nit_perform.specs.Below.{ShotFrame, ShotsBehind, ShowsEach, Sight, Size, State}
pub use Rattle.nit_perform.specs.Below.{StoreModel, TooLong, UnlessMemory, UserBelongs}
pub use Rattle.nit_perform.specs.Below.{UserPassModel, UserRole, Vec, View, Word, WriteFaulted}
pub use Rattle.nit_perform.specs.Below.{action_of, actions_of_turns, after, after_turn, among}
pub use Rattle.nit_perform.specs.Below.{asking_all, bar_rows, black_or_word, buffer_place}
pub use Rattle.nit_perform.specs.Below.{buffer_size, by_turns, bytes_of, calls_to_make, client_text}
pub use Rattle.nit_perform.specs.Below.{clip_number, clip_phases, clip_role_of, clip_text}
pub use Rattle.nit_perform.specs.Below.{clips_name, codes, count_by, count_lines, cropped_bytes}
pub use Rattle.nit_perform.specs.Below.{decimal, donation_of, drawn_shot, ending_of, events_file}
pub use Rattle.nit_perform.specs.Below.{events_files, events_name, events_text, false, file_at}
pub use Rattle.nit_perform.specs.Below.{film_header, film_name, film_of, final_name, final_picture}
pub use Rattle.nit_perform.specs.Below.{first_clip_pass, first_forbidden, first_session}
pub use Rattle.nit_perform.specs.Below.{first_state, frame, frame_answer, frame_lines, frames_of}
pub use Rattle.nit_perform.specs.Below.{generated, generated_files, glass_after, glass_in}
pub use Rattle.nit_perform.specs.Below.{idle_user, inner_journal_name, input_by_user}
pub use Rattle.nit_perform.specs.Below.{input_lines_of, input_phases, into_iter_items, is_label}
pub use Rattle.nit_perform.specs.Below.{is_label_byte, is_phase, is_shot_line, is_some, is_too_long}
pub use Rattle.nit_perform.specs.Below.{journal_file, journal_text, last_frame, left_word}
pub use Rattle.nit_perform.specs.Below.{lines_of_frames, list_all, member, most_lines, most_units}
pub use Rattle.nit_perform.specs.Below.{negsuc, nest_of, nest_script, new_sight, next_record}
pub use Rattle.nit_perform.specs.Below.{no_sight, output_name, owner, pair_role_of, phases, picture}
pub use Rattle.nit_perform.specs.Below.{picture_by, picture_length, pictures_in, pixel, pixel_count}
pub use Rattle.nit_perform.specs.Below.{plan_of_script, pos, put_state_of_desk, range_with_len}
pub use Rattle.nit_perform.specs.Below.{raw_words, record_of, records, refusal_by, replay}
pub use Rattle.nit_perform.specs.Below.{replay_from, role_of, rounds, run_files, scenery_of}
pub use Rattle.nit_perform.specs.Below.{script_answer, script_files, script_in, script_name}
pub use Rattle.nit_perform.specs.Below.{session, setup_of, shot_frames_of, shot_name, shots}
pub use Rattle.nit_perform.specs.Below.{shots_after, shots_of, shown_index, slice_get, slice_index}
pub use Rattle.nit_perform.specs.Below.{slice_index_or, source_at, source_under, state_now}
pub use Rattle.nit_perform.specs.Below.{table_size, tables_left, text_files, true, unrefused}
pub use Rattle.nit_perform.specs.Below.{user_actions_in, user_actions_of, user_actions_to_do}
pub use Rattle.nit_perform.specs.Below.{user_role_of, with_asked, with_clip_scripts, with_last}
pub use Rattle.nit_perform.specs.Below.{word_from, words_after, words_left_in, ℤ}
pub use Rattle.nit_perform.specs.CaptureRun.{HasFilmed, RunsFilmed, begun_of}
pub use Rattle.nit_perform.specs.ClipRoom.{HasRoomBack, IsClipListText, IsReadyWithClips}
pub use Rattle.nit_perform.specs.ClipRoom.{clips_setup, clips_setup_in}
pub use Rattle.nit_perform.specs.ClipRun.{HasRunClips, RunsClips, clips_setup_of}
pub use Rattle.nit_perform.specs.FilmStore.{IsFilmOf, bytes_under, last_of, picture_names}
pub use Rattle.nit_perform.specs.InnerRun.{NestState, NestsRun, TakesAll, TakesNext}
pub use Rattle.nit_perform.specs.LastPicture.{AreAllDone, CanTakeLast, HasEnded, HasPictureRoom}
pub use Rattle.nit_perform.specs.LastPicture.{TakesLast, put_state_at}
pub use Rattle.nit_perform.specs.RoomRun.{AreBuffers, AreKeysBlank, IsAlone, IsKnownWhole, IsMemory}
pub use Rattle.nit_perform.specs.RoomRun.{IsReady, IsReadyAlone, IsSupplied}
pub use Rattle.nit_perform.specs.RoundsOpening.{AreInkedPlans, AreScriptsOf, IsRoundsOpening}
pub use Rattle.nit_perform.specs.RoundsOpening.{glasses_of, plans_of}
pub use Rattle.nit_perform.specs.Runs.{HasRun, IsRunOf, IsSameRun, Runs, is_shot_entry}
pub use Rattle.nit_perform.specs.Runs.{put_state_of_run}
