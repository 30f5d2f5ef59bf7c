-- What answers use: all that lemmas use, and this crate's lemmas.
pub use Rattle.nit_hall.proofs.Agreements.{IsMet, can_agree, can_agree_again, room_admitted}
pub use Rattle.nit_hall.proofs.Agreements.{room_and_pass_met, room_arrived, waiting_others}
pub use Rattle.nit_hall.proofs.Basics.{AllServed, CanAgree, ClipPassModel, Configuration, End}
pub use Rattle.nit_hall.proofs.Basics.{InputLine, IsAdded, IsFirstPass, IsKnownPass, IsLegal}
pub use Rattle.nit_hall.proofs.Basics.{IsLegalClips, IsOpen, IsPaintedTo, IsRoom, List}
pub use Rattle.nit_hall.proofs.Basics.{OpeningParts, Painted, PassModel, RoomModel, SceneModel, ap}
pub use Rattle.nit_hall.proofs.Basics.{arith, bare_word, buffers_of, calls_in, calls_of}
pub use Rattle.nit_hall.proofs.Basics.{clip_answer, clip_entry, clip_script_in, clipboard_of}
pub use Rattle.nit_hall.proofs.Basics.{common_steps, donation_of, drop_all, entries_in, frame}
pub use Rattle.nit_hall.proofs.Basics.{get_or-replicate, get_or_default, glass_in, has_stages}
pub use Rattle.nit_hall.proofs.Basics.{in_line, into_iter_items, is_clip_phase, is_input_phase}
pub use Rattle.nit_hall.proofs.Basics.{is_phase, knowing, knowing_clip, length, length-map}
pub use Rattle.nit_hall.proofs.Basics.{length-replicate, line_stages, map-map, nat_tests, next_call}
pub use Rattle.nit_hall.proofs.Basics.{next_clip, next_device, parts_of, refl, replay}
pub use Rattle.nit_hall.proofs.Basics.{replicate_more, rest_of, rules, same_Some, scenery_of}
pub use Rattle.nit_hall.proofs.Basics.{script_in, seen, set, sight_after_line, slice_get-get_or}
pub use Rattle.nit_hall.proofs.Basics.{slice_get_within, source_at, stage_within, state_now}
pub use Rattle.nit_hall.proofs.Basics.{stretch, stretch_from, subst, sym, take-set-le, with_clip}
pub use Rattle.nit_hall.proofs.Basics.{with_final, with_room_stages, with_stages, without_final}
pub use Rattle.nit_hall.proofs.Basics.{words_left_in, ◌∙◌}
pub use Rattle.nit_hall.proofs.ClipLineLemmas.{follow_on}
pub use Rattle.nit_hall.proofs.EntryLemmas.{front_of_each, history_begun, last_found, one_last}
pub use Rattle.nit_hall.proofs.EntryLemmas.{open_whole, raws_more, seen_more, whole_history}
pub use Rattle.nit_hall.proofs.LineLemmas.{actions_line, counted_more, counted_same, line_counted}
pub use Rattle.nit_hall.proofs.LineLemmas.{no_more_calls, stretch_begun, stretch_on, stroke_staged}
pub use Rattle.nit_hall.proofs.LineLemmas.{unserved_line}
pub use Rattle.nit_hall.proofs.NearLemmas.{end_with, near_word, put_back, same_buffers, same_stands}
pub use Rattle.nit_hall.proofs.NearLemmas.{set_there}
pub use Rattle.nit_hall.proofs.PassCounts.{back_raised, entered, own_back, own_raised, pass_counted}
pub use Rattle.nit_hall.proofs.PassCounts.{user_back, user_counted, user_raised}
pub use Rattle.nit_hall.proofs.Phases.{actions_known, few_arrived, none_ended, pass_phase}
pub use Rattle.nit_hall.proofs.Phases.{phase_over, phase_small, phases_begun, user_ends, user_open}
pub use Rattle.nit_hall.proofs.RoomEndLemmas.{AreKnown, all_served, booked_still, glasses_settled}
pub use Rattle.nit_hall.proofs.RoomEndLemmas.{holds_all, holds_below, last_frame, left_of, met_now}
pub use Rattle.nit_hall.proofs.RoomEndLemmas.{rests_again, room_ended, same_sights, step_far}
pub use Rattle.nit_hall.proofs.RoomEndLemmas.{still_there, tells_left}
pub use Rattle.nit_hall.proofs.RoomOpening.{AgreeSoFar, all_agree, begun_canvases, clips_begun}
pub use Rattle.nit_hall.proofs.RoomOpening.{counts_long, donation_at, each_more, first_before}
pub use Rattle.nit_hall.proofs.RoomOpening.{follows_begun, get_seam, lens_glasses, lens_inks}
pub use Rattle.nit_hall.proofs.RoomOpening.{lenses_watch, near_begun, new_clip_pass, none_agree}
pub use Rattle.nit_hall.proofs.RoomOpening.{one_agrees, opened_clips, room_with_clips}
pub use Rattle.nit_hall.proofs.RoomSteps.{before_open, booked_more, can_add, state_later}
pub use Rattle.nit_hall.proofs.ScriptsFollowed.{actions_front_of, calls_front_of, client_is}
pub use Rattle.nit_hall.proofs.ScriptsFollowed.{follows_user_phase, whole}
pub use Rattle.nit_hall.proofs.ServedCalls.{CallDid, Found, ServedClauses, before_it_knew}
pub use Rattle.nit_hall.proofs.ServedCalls.{calls_made, calls_then, next_at, own_seen, pass_call}
pub use Rattle.nit_hall.proofs.ServedCalls.{room_call, scene_with, served_clauses, still_open}
pub use Rattle.nit_hall.proofs.ServedClips.{FoundClip, IsKnownClip, clip_counted, clip_met}
pub use Rattle.nit_hall.proofs.ServedClips.{clips_whole, follows_then, number_is, room_clip}
pub use Rattle.nit_hall.proofs.ServedClips.{room_left}
pub use Rattle.nit_hall.proofs.UserActions.{FoundUser, IsAction, action_acted, action_entered}
pub use Rattle.nit_hall.proofs.UserActions.{action_room, action_user, adds_input, adds_shot}
pub use Rattle.nit_hall.proofs.UserActions.{done_input, done_shot, found_user, shot_told}
pub use Rattle.nit_hall.proofs.UserActions.{user_ready}
