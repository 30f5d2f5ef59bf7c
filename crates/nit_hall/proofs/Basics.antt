-- What lemmas use: the words of clauses, the library's lemmas, and those of the crates below.
pub use Rattle.nit_hall.specs.Terms.{AllByRecursion, AllServed, AreAgreed, AreBegun, AreBlank}
pub use Rattle.nit_hall.specs.Terms.{AreDone, AreDoneClips, AreListedGlasses, AreInPhases, AreLast}
pub use Rattle.nit_hall.specs.Terms.{AreNear, AreSplitOff, AreTogether, AreWatching, Bare, Belongs}
pub use Rattle.nit_hall.specs.Terms.{Black, BookModel, BufferName, Call, CallLaws, CanAdd, CanAgree}
pub use Rattle.nit_hall.specs.Terms.{ClipBelongs, ClipCall, ClipEntry, ClipHasMet, ClipLine}
pub use Rattle.nit_hall.specs.Terms.{ClipModel, ClipPassModel, ClipReply, Colours, Configuration}
pub use Rattle.nit_hall.specs.Terms.{Device, End, Entry, EntryLaws, FitsDevice, Follows}
pub use Rattle.nit_hall.specs.Terms.{FollowsClips, HasActed, HasLoaded, HasMet, HasStretch}
pub use Rattle.nit_hall.specs.Terms.{HaveInks, InputLine, IsAdded, IsAmong, IsAtClip, IsAtPhaseEnd}
pub use Rattle.nit_hall.specs.Terms.{IsClipPass, IsDevice, IsDoneClip, IsDonePass, IsFirstPass}
pub use Rattle.nit_hall.specs.Terms.{IsHistory, IsInPhase, IsKnownPass, IsLastDirtied, IsLegal}
pub use Rattle.nit_hall.specs.Terms.{IsLegalClips, IsLoaded, IsNearBy, IsNonDecreasing, IsOpen}
pub use Rattle.nit_hall.specs.Terms.{IsPaintedTo, IsPass, IsRoom, IsServedPhase, IsThere}
pub use Rattle.nit_hall.specs.Terms.{IsUserPass, IsWhole, IsWholeClips, IsWordOfScripts}
pub use Rattle.nit_hall.specs.Terms.{IsWordOfSource, KnowsStretch, LegalFrom, Line, List}
pub use Rattle.nit_hall.specs.Terms.{MayHaveDone, Member, None, OpeningParts, Painted, Painting}
pub use Rattle.nit_hall.specs.Terms.{PassModel, PassRest, PixelSource, Point, Recorded, Reply}
pub use Rattle.nit_hall.specs.Terms.{RoomModel, Routed, SceneModel, ShareModel, Sight, Size}
pub use Rattle.nit_hall.specs.Terms.{Standing, State, Stroke, TellsShot, UserAction, UserBelongs}
pub use Rattle.nit_hall.specs.Terms.{UserHasMet, UserPassModel, View, Word, after, after_arrival}
pub use Rattle.nit_hall.specs.Terms.{after_line, among, bare_word, before_final, black_or_word}
pub use Rattle.nit_hall.specs.Terms.{blank, buffer_place, buffer_size, buffers_of, call_entry}
pub use Rattle.nit_hall.specs.Terms.{calls_from, calls_in, calls_of, calls_to_make, calls_up_to}
pub use Rattle.nit_hall.specs.Terms.{clip_answer, clip_calls_in, clip_calls_of, clip_entry}
pub use Rattle.nit_hall.specs.Terms.{clip_phases_before, clip_script_in, clipboard_of, clips_to_do}
pub use Rattle.nit_hall.specs.Terms.{clips_to_make, donation_of, done, entries_in, first_pass}
pub use Rattle.nit_hall.specs.Terms.{first_session, first_state, frame, glass_in, glasses_of_call}
pub use Rattle.nit_hall.specs.Terms.{in_line, ink_in, input_phases_before, into_iter_items}
pub use Rattle.nit_hall.specs.Terms.{is_accepted, is_clip_phase, is_dirtied, is_input_phase}
pub use Rattle.nit_hall.specs.Terms.{is_phase, is_served, knowing, knowing_clip, left_after}
pub use Rattle.nit_hall.specs.Terms.{left_word, length, lenses, line_stages, lines_of_all}
pub use Rattle.nit_hall.specs.Terms.{lines_of_clips, lines_to_call, negsuc, new_sight, next_call}
pub use Rattle.nit_hall.specs.Terms.{next_clip, next_device, next_phase, no_sight, owner_of}
pub use Rattle.nit_hall.specs.Terms.{painted_from, parts_of, phase_of_entry, phases_along}
pub use Rattle.nit_hall.specs.Terms.{phases_before, phases_ended, pixel, pixel_count, pos, raised}
pub use Rattle.nit_hall.specs.Terms.{raw_behind, raws_in, replay, rest_of, scenery_of, script_in}
pub use Rattle.nit_hall.specs.Terms.{script_ink, seen, serve, served, session, shots, shown_index}
pub use Rattle.nit_hall.specs.Terms.{sight_after_line, source_at, source_of, source_under}
pub use Rattle.nit_hall.specs.Terms.{stages_within, stands, state_now, stretch, stretch_end}
pub use Rattle.nit_hall.specs.Terms.{stretch_from, strokes_in_front, table_size, to_do}
pub use Rattle.nit_hall.specs.Terms.{user_actions_from, user_actions_in, user_actions_of}
pub use Rattle.nit_hall.specs.Terms.{user_actions_to_do, watching_sight, with_clip}
pub use Rattle.nit_hall.specs.Terms.{with_clip_scripts, with_end_stages, with_entry, with_final}
pub use Rattle.nit_hall.specs.Terms.{with_room_stages, with_stages, with_words, without_final}
pub use Rattle.nit_hall.specs.Terms.{words_after, words_at_call, words_left, words_left_in, ℤ}
pub use Rattle.nit_journal.proofs.ForCallers.{IsUsers, actions_of-append, actions_same, as_many}
pub use Rattle.nit_journal.proofs.ForCallers.{as_many_as_clients, bare_everywhere, calls_of-append}
pub use Rattle.nit_journal.proofs.ForCallers.{calls_other, calls_own, calls_same, phases_action}
pub use Rattle.nit_journal.proofs.ForCallers.{phases_call, phases_final, same_config}
pub use Rattle.nit_overlay.proofs.ForCallers.{same_frame}
pub use Rattle.nit_plan.proofs.ForCallers.{calls_done, has_stages, stage_within, within_only}
pub use Rattle.nit_stack.proofs.ForCallers.{map-map}
pub use Rattle.nit_word.proofs.ForCallers.{no_ink, zero_at}
pub use Rattle.std.proofs.Common.{ap, arith, refl, rules, set, subst, sym, ◌∙◌}
pub use Rattle.std.proofs.Math.ListN.{get_or-map}
pub use Rattle.std.proofs.Math.Seq.{get_or-append_seam, map-set_same, take-set-lt}
pub use Rattle.std.proofs.lemmas.Bool.{cases_Bool, cases_eq, cases_lt, eqb-false}
pub use Rattle.std.proofs.lemmas.Bool.Decides.{nat_tests}
pub use Rattle.std.proofs.lemmas.Grind.{common_steps}
pub use Rattle.std.proofs.lemmas.List.{drop-set-add, drop_all, get_or-replicate, get_or_append_left}
pub use Rattle.std.proofs.lemmas.List.{get_or_default, get_or_past, length-map, length-replicate}
pub use Rattle.std.proofs.lemmas.List.{map-append, replicate_more, set-get_or, take-set-le}
pub use Rattle.std.proofs.lemmas.List.Edits.{map_over_more}
pub use Rattle.std.proofs.lemmas.List.Elements.{filter-append, recursion_from_All}
pub use Rattle.std.proofs.lemmas.List.Folds.{sum_by-replicate}
pub use Rattle.std.proofs.lemmas.List.FromFn.{get_or-map-range_with_len}
pub use Rattle.std.proofs.lemmas.List.Sorted.{IsNonDecreasingBy-push, IsNonDecreasingBy-short}
pub use Rattle.std.proofs.lemmas.List.Sums.{count_by-le-length, count_by_more_no, count_by_more_yes}
pub use Rattle.std.proofs.lemmas.List.Sums.{length-filter, sum_by-append, sum_by-cons, sum_by-set}
pub use Rattle.std.proofs.lemmas.Option.{get_or_from_slice_get, gets, same_Some, slice_get-get_or}
pub use Rattle.std.proofs.lemmas.Option.{slice_get-map, slice_get_within}
