-- What lemmas use: the words of clauses, the library's lemmas, and those of the crates below.
pub use Rattle.nit_actor.proofs.ForCallers.{among_more, fits_belongs, one_history, role_at}
pub use Rattle.nit_actor.proofs.ForCallers.{roles_fit, roles_long}
pub use Rattle.nit_hall.proofs.ForCallers.{actions_done, told_word}
pub use Rattle.nit_journal.proofs.ForCallers.{actions_of-append, as_many_as_clients, kept_config}
pub use Rattle.nit_journal.proofs.ForCallers.{same_throughout}
pub use Rattle.nit_overlay.proofs.ForCallers.{same_frame}
pub use Rattle.nit_perform.specs.Terms.{ActorLine, AfterPut, All, AllByRecursion, AreAllDone}
pub use Rattle.nit_perform.specs.Terms.{AreDone, AreDoneClips, AreFirstClipPasses, AreInkedPlans}
pub use Rattle.nit_perform.specs.Terms.{AreKeysBlank, AreRoundsOf, AreScriptsOf, AreShots}
pub use Rattle.nit_perform.specs.Terms.{AskedAtMost, Bad, Bare, Belongs, ByUser, CanTakeLast}
pub use Rattle.nit_perform.specs.Terms.{CaptureModel, ClipLine, ClipPassModel, ClipRole}
pub use Rattle.nit_perform.specs.Terms.{Configuration, Desk, Drawing, End, Entry, File, Global}
pub use Rattle.nit_perform.specs.Terms.{HasEnded, HasFilmed, HasRun, HasRunClips, HaveTables, IfOk}
pub use Rattle.nit_perform.specs.Terms.{InputLine, IsAlone, IsClipListText, IsDoneClip, IsFilmOf}
pub use Rattle.nit_perform.specs.Terms.{IsGlass, IsJournal, IsKnownWhole, IsLegal, IsNearPicture}
pub use Rattle.nit_perform.specs.Terms.{IsOpen, IsOpening, IsPairIn, IsPictureAmong, IsPut, IsReady}
pub use Rattle.nit_perform.specs.Terms.{IsReadyAlone, IsReadyWithClips, IsRoundsOpening}
pub use Rattle.nit_perform.specs.Terms.{IsRoundsRun, IsRunOf, IsRunnable, IsSetUp, IsSetting}
pub use Rattle.nit_perform.specs.Terms.{IsUtf8, IsWhole, IsWord, IsWordOfSource, Line, LineTurn}
pub use Rattle.nit_perform.specs.Terms.{Member, NestError, NestModel, NestState, NestsRun, NoMemory}
pub use Rattle.nit_perform.specs.Terms.{OpenedRounds, OpeningParts, Painted, Pair, PairRole}
pub use Rattle.nit_perform.specs.Terms.{PassModel, Phases, PixelSource, PlanModel, Point, PutEach}
pub use Rattle.nit_perform.specs.Terms.{PutError, PutFault, PutFiles, PutIn, PutRefusal, PutState}
pub use Rattle.nit_perform.specs.Terms.{PutsAll, PutsFile, PutsNext, PutsShotsBehind, Ran, Region}
pub use Rattle.nit_perform.specs.Terms.{Role, RoomModel, RunFiles, SceneModel, Session, Setup}
pub use Rattle.nit_perform.specs.Terms.{ShotFrame, ShotsBehind, ShowsEach, Sight, Size, State}
pub use Rattle.nit_perform.specs.Terms.{StoreModel, TakesAll, TakesLast, TakesNext, TooLong}
pub use Rattle.nit_perform.specs.Terms.{UnlessMemory, UserBelongs, UserPassModel, UserRole, Vec}
pub use Rattle.nit_perform.specs.Terms.{View, Word, WriteFaulted, action_of, actions_of_turns}
pub use Rattle.nit_perform.specs.Terms.{after, after_turn, among, asking_all, bar_rows, begun_of}
pub use Rattle.nit_perform.specs.Terms.{black_or_word, buffer_place, buffer_size, by_turns}
pub use Rattle.nit_perform.specs.Terms.{bytes_of, bytes_under, calls_to_make, client_text}
pub use Rattle.nit_perform.specs.Terms.{clip_number, clip_phases, clip_role_of, clip_text}
pub use Rattle.nit_perform.specs.Terms.{clips_name, clips_setup, clips_setup_in, codes, count_by}
pub use Rattle.nit_perform.specs.Terms.{count_lines, cropped_bytes, decimal, donation_of}
pub use Rattle.nit_perform.specs.Terms.{drawn_shot, ending_of, events_file, events_files}
pub use Rattle.nit_perform.specs.Terms.{events_name, events_text, false, file_at, film_header}
pub use Rattle.nit_perform.specs.Terms.{film_name, film_of, final_name, final_picture}
pub use Rattle.nit_perform.specs.Terms.{first_clip_pass, first_forbidden, first_session}
pub use Rattle.nit_perform.specs.Terms.{first_state, frame, frame_answer, frame_lines, frames_of}
pub use Rattle.nit_perform.specs.Terms.{glass_after, glass_in, glasses_of, idle_user, input_by_user}
pub use Rattle.nit_perform.specs.Terms.{input_lines_of, input_phases, into_iter_items, is_label}
pub use Rattle.nit_perform.specs.Terms.{is_label_byte, is_phase, is_shot_entry, is_shot_line}
pub use Rattle.nit_perform.specs.Terms.{is_some, is_too_long, journal_file, journal_text}
pub use Rattle.nit_perform.specs.Terms.{last_frame, last_of, left_word, lines_of_frames, list_all}
pub use Rattle.nit_perform.specs.Terms.{member, most_lines, most_units, negsuc, nest_of}
pub use Rattle.nit_perform.specs.Terms.{nest_script, new_sight, next_record, no_sight, output_name}
pub use Rattle.nit_perform.specs.Terms.{owner, pair_role_of, phases, picture, picture_by}
pub use Rattle.nit_perform.specs.Terms.{picture_names, pictures_in, pixel, pixel_count}
pub use Rattle.nit_perform.specs.Terms.{plan_of_script, plans_of, pos, put_state_at}
pub use Rattle.nit_perform.specs.Terms.{put_state_of_desk, put_state_of_run, range_with_len}
pub use Rattle.nit_perform.specs.Terms.{raw_words, record_of, records, refusal_by, replay}
pub use Rattle.nit_perform.specs.Terms.{replay_from, role_of, rounds, run_files, scenery_of}
pub use Rattle.nit_perform.specs.Terms.{script_answer, script_files, script_in, script_name}
pub use Rattle.nit_perform.specs.Terms.{session, setup_of, shot_frames_of, shot_name, shots}
pub use Rattle.nit_perform.specs.Terms.{shots_after, shots_of, shown_index, slice_get, slice_index}
pub use Rattle.nit_perform.specs.Terms.{slice_index_or, source_at, source_under, state_now}
pub use Rattle.nit_perform.specs.Terms.{table_size, tables_left, text_files, true, unrefused}
pub use Rattle.nit_perform.specs.Terms.{user_actions_in, user_actions_of, user_actions_to_do}
pub use Rattle.nit_perform.specs.Terms.{user_role_of, with_asked, with_clip_scripts, with_last}
pub use Rattle.nit_perform.specs.Terms.{word_from, words_after, words_left_in, ℤ}
pub use Rattle.nit_rect.proofs.ForCallers.{all_append}
pub use Rattle.nit_rounds.proofs.ForCallers.{files_both, no_files, put_as_pictures, shots_along}
pub use Rattle.nit_rounds.proofs.ForCallers.{stays_throughout}
pub use Rattle.nit_run.proofs.ForCallers.{Numbered, OtherThan, UserOnce, also_more, asking_none}
pub use Rattle.nit_run.proofs.ForCallers.{later_shots, no_picture, no_shots, numbered, other_both}
pub use Rattle.nit_run.proofs.ForCallers.{other_letter, output_is_text, shots_apart, stays, text_at}
pub use Rattle.nit_run.proofs.ForCallers.{texts_other, with_texts}
pub use Rattle.nit_store.proofs.ForCallers.{none_behind, puts_both, puts_more}
pub use Rattle.std.proofs.Common.{List, Ok, Some, [], ap, arith, length, map, not, refl, rules}
pub use Rattle.std.proofs.Common.{subst, sym, ◌∙◌}
pub use Rattle.std.proofs.Math.Seq.{take-append_seam}
pub use Rattle.std.proofs.lemmas.Bool.{and_parts, cases_Bool, cases_lt, eq-eqb, lt-ltb}
pub use Rattle.std.proofs.lemmas.Bool.Decides.{nat_tests}
pub use Rattle.std.proofs.lemmas.Fmt.{IsAscii-decimal}
pub use Rattle.std.proofs.lemmas.List.{append-nil, append_cancel_left, get_or_default, get_or_past}
pub use Rattle.std.proofs.lemmas.List.{length-map, length_push, map-append, map-id, map_push}
pub use Rattle.std.proofs.lemmas.List.{take_all}
pub use Rattle.std.proofs.lemmas.List.Elements.{All-from_recursion, All-map, All-push}
pub use Rattle.std.proofs.lemmas.List.FromFn.{get_or-map-range_with_len, length-map-range_with_len}
pub use Rattle.std.proofs.lemmas.List.FromFn.{map-range_with_len_more}
pub use Rattle.std.proofs.lemmas.List.Sums.{sum_by-append, sum_by-cons}
pub use Rattle.std.proofs.lemmas.Option.{get_or_from_slice_get, same_Some, slice_get-get_or}
pub use Rattle.std.proofs.lemmas.Option.{slice_get-map, slice_get_within}
pub use Rattle.std.proofs.lemmas.Str.{IsAscii-append, IsUtf8-from_ascii}
