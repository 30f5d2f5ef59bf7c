-- What answers use: all that lemmas use, and this crate's lemmas.
pub use Rattle.nit_perform.proofs.Basics.{All, All-push, AreKeysBlank, ClipPassModel, Configuration}
pub use Rattle.nit_perform.proofs.Basics.{End, File, HasFilmed, HasRun, HasRunClips, HaveTables}
pub use Rattle.nit_perform.proofs.Basics.{IsClipListText, IsSetting, IsWord, List, NestState, Ok}
pub use Rattle.nit_perform.proofs.Basics.{PassModel, PlanModel, PutFault, PutsAll, PutsNext}
pub use Rattle.nit_perform.proofs.Basics.{ShotFrame, Some, State, StoreModel, TakesNext, [], ap}
pub use Rattle.nit_perform.proofs.Basics.{arith, by_turns, client_text, clips_setup_in, donation_of}
pub use Rattle.nit_perform.proofs.Basics.{ending_of, events_file, events_name, events_text, false}
pub use Rattle.nit_perform.proofs.Basics.{frame, get_or_default, glass_after, into_iter_items}
pub use Rattle.nit_perform.proofs.Basics.{journal_text, last_frame, length}
pub use Rattle.nit_perform.proofs.Basics.{length-map-range_with_len, length_push, map, map_push}
pub use Rattle.nit_perform.proofs.Basics.{new_sight, not, output_is_text, picture_names}
pub use Rattle.nit_perform.proofs.Basics.{plan_of_script, put_as_pictures, put_state_of_desk}
pub use Rattle.nit_perform.proofs.Basics.{put_state_of_run, range_with_len, refl, rounds, rules}
pub use Rattle.nit_perform.proofs.Basics.{run_files, scenery_of, script_files, script_in}
pub use Rattle.nit_perform.proofs.Basics.{script_name, session, setup_of, shot_frames_of, state_now}
pub use Rattle.nit_perform.proofs.Basics.{stays_throughout, subst, sym, tables_left, text_at}
pub use Rattle.nit_perform.proofs.Basics.{text_files, true, with_texts, ◌∙◌}
pub use Rattle.nit_perform.proofs.InnerLemmas.{answered, frame_refused, no_frames, script_refused}
pub use Rattle.nit_perform.proofs.InnerLemmas.{taken_all, takes_more, whole_nest}
pub use Rattle.nit_perform.proofs.PutLemmas.{IsFilmEnd, before_last, before_shot, film_grows}
pub use Rattle.nit_perform.proofs.PutLemmas.{film_leaves, film_stays, last_more, next_goes}
pub use Rattle.nit_perform.proofs.PutLemmas.{next_stays, no_put, one_file_more, one_shot_more}
pub use Rattle.nit_perform.proofs.PutLemmas.{other_names}
pub use Rattle.nit_perform.proofs.RoomRunLemmas.{all_done, all_push, alone_leaves, are_all_done}
pub use Rattle.nit_perform.proofs.RoomRunLemmas.{back_long, beside_leaves, clips_done, clips_leave}
pub use Rattle.nit_perform.proofs.RoomRunLemmas.{ended_as, is_ready, is_ready_alone, known_whole}
pub use Rattle.nit_perform.proofs.RoomRunLemmas.{last_is, opened_ready, passes_done, setup_in}
pub use Rattle.nit_perform.proofs.RunLemmas.{PutsLast, at_member, blank_glass, can_take_last}
pub use Rattle.nit_perform.proofs.RunLemmas.{finished_frame, inked, last_picture, left_tables}
pub use Rattle.nit_perform.proofs.RunLemmas.{one_made, rounds_journal, run_leaves, set_up, setting}
pub use Rattle.nit_perform.proofs.RunLemmas.{written_whole}
