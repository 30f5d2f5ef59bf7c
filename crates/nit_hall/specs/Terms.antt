-- The words that clauses use: those that come from outside, and those of this crate.
pub use Rattle.nit_hall.specs.Agreeing.{CanAgree}
pub use Rattle.nit_hall.specs.Below.{AllByRecursion, AreInPhases, AreListedGlasses, Bare, Black}
pub use Rattle.nit_hall.specs.Below.{BookModel, BufferName, Call, CanAdd, ClipCall, ClipEntry}
pub use Rattle.nit_hall.specs.Below.{ClipLine, ClipModel, ClipReply, Colours, Configuration, Device}
pub use Rattle.nit_hall.specs.Below.{End, Entry, FitsDevice, HasStage, InputLine, IsAdded, IsAmong}
pub use Rattle.nit_hall.specs.Below.{IsDevice, IsDonation, IsGlass, IsInPhase, IsLegal}
pub use Rattle.nit_hall.specs.Below.{IsLegalClips, IsLoaded, IsNonDecreasing, IsOpen, IsPaintedTo}
pub use Rattle.nit_hall.specs.Below.{IsRunConfiguration, IsThere, IsWhole, IsWholeClips, IsWord}
pub use Rattle.nit_hall.specs.Below.{IsWordOfSource, LegalFrom, Line, List, Member, None, Painted}
pub use Rattle.nit_hall.specs.Below.{Painting, PixelSource, Point, Recorded, Reply, Routed}
pub use Rattle.nit_hall.specs.Below.{SceneModel, ShareModel, Sight, Size, Some, Standing, State}
pub use Rattle.nit_hall.specs.Below.{Stroke, UserAction, View, Word, after, after_line, among}
pub use Rattle.nit_hall.specs.Below.{bare_word, before_final, black_or_word, blank, buffer_place}
pub use Rattle.nit_hall.specs.Below.{buffer_size, calls_from, calls_in, calls_of, calls_to_make}
pub use Rattle.nit_hall.specs.Below.{calls_up_to, clip_answer, clip_calls_in, clip_calls_of}
pub use Rattle.nit_hall.specs.Below.{clipboard_of, clips_to_do, clips_to_make, deliveries_of}
pub use Rattle.nit_hall.specs.Below.{donation_of, done, entries_in, first_session, first_state}
pub use Rattle.nit_hall.specs.Below.{frame, glass_in, glasses_of_call, into_iter_items, is_accepted}
pub use Rattle.nit_hall.specs.Below.{is_clip_phase, is_input_phase, is_phase, kills, left_after}
pub use Rattle.nit_hall.specs.Below.{length, most_clips, most_entries, most_height, most_lines}
pub use Rattle.nit_hall.specs.Below.{most_run_sessions, most_shares, most_width, negsuc, new_sight}
pub use Rattle.nit_hall.specs.Below.{next_phase, no_sight, owner_of, painted_from, phases_along}
pub use Rattle.nit_hall.specs.Below.{pixel, pixel_count, pos, raised, raws_in, replay, replicate}
pub use Rattle.nit_hall.specs.Below.{route, routed_as, scenery_of, script_in, script_ink, seen}
pub use Rattle.nit_hall.specs.Below.{serve, session, shots, shown_index, slice_get, source_at}
pub use Rattle.nit_hall.specs.Below.{source_of, source_under, stages_within, state_now, table_size}
pub use Rattle.nit_hall.specs.Below.{take, to_do, told_words, user_actions_from, user_actions_of}
pub use Rattle.nit_hall.specs.Below.{user_actions_to_do, with_stages, with_words, words_after}
pub use Rattle.nit_hall.specs.Below.{words_left, ℤ}
pub use Rattle.nit_hall.specs.ClipOpening.{AreFirstClipPasses, IsUnserved, with_clip_scripts}
pub use Rattle.nit_hall.specs.ClipPass.{AreDoneClips, AreTogether, ClipBelongs, ClipPassModel}
pub use Rattle.nit_hall.specs.ClipPass.{IsAtClip, IsAtClipPhase, IsAtPhaseEnd, IsClipPass}
pub use Rattle.nit_hall.specs.ClipPass.{IsDoneClip, clip_phases_before, clip_script_in}
pub use Rattle.nit_hall.specs.ClipPass.{knowing_clip, next_clip}
pub use Rattle.nit_hall.specs.Hall.{TellsShot}
pub use Rattle.nit_hall.specs.HallCalls.{CanClip}
pub use Rattle.nit_hall.specs.History.{AreLast, IsHistory, raw_behind}
pub use Rattle.nit_hall.specs.Meeting.{ClipHasMet, HasMet, UserHasMet}
pub use Rattle.nit_hall.specs.NearWords.{AreNear, IsLastDirtied, IsNear, IsNearBy, IsNearFrame}
pub use Rattle.nit_hall.specs.NearWords.{IsWordOfScripts, MayHaveDone, is_dirtied, phase_of_entry}
pub use Rattle.nit_hall.specs.NearWords.{words_at_call}
pub use Rattle.nit_hall.specs.Opening.{AreAgreed, AreBegun, AreBlank, AreSplitOff, CanOpen}
pub use Rattle.nit_hall.specs.Opening.{IsFirstPass}
pub use Rattle.nit_hall.specs.Opening.{IsOpening, IsSetting, buffers_of, first_pass, parts_of}
pub use Rattle.nit_hall.specs.OpeningParts.{OpeningParts}
pub use Rattle.nit_hall.specs.Pass.{AreDone, Belongs, HasLoaded, IsAtCall, IsAtDevice, IsAtPhase}
pub use Rattle.nit_hall.specs.Pass.{IsAtShot, IsAtUserPhase, IsDonePass, IsDoneUser, IsPass}
pub use Rattle.nit_hall.specs.Pass.{IsUserPass, PassModel, UserBelongs, UserPassModel, call_entry}
pub use Rattle.nit_hall.specs.Pass.{device_entry, in_line, knowing, next_call, next_device, rest_of}
pub use Rattle.nit_hall.specs.Pass.{sight_after_line, stretch_from}
pub use Rattle.nit_hall.specs.Room.{AllServed, AreWatching, Follows, HaveInks, IsRoom}
pub use Rattle.nit_hall.specs.Room.{IsServedPhase, RoomModel, after_arrival, clip_entry, ink_in}
pub use Rattle.nit_hall.specs.Room.{lenses, phases_ended, stands, with_clip, with_end_stages}
pub use Rattle.nit_hall.specs.Room.{with_entry, with_final, with_room_stages, without_final}
pub use Rattle.nit_hall.specs.RoomCalls.{HasActed, HasAdmitted, HasArrived, HasServed, HaveMet}
pub use Rattle.nit_hall.specs.RoomCalls.{IsReadyAt, UserHasArrived, UserIsReadyAt}
pub use Rattle.nit_hall.specs.RoomClips.{FollowsClips, lines_of_clips}
pub use Rattle.nit_hall.specs.RoomEnd.{IsKnownPass, left_word, words_left_in}
pub use Rattle.nit_hall.specs.RoomLaws.{CallLaws, EntryLaws}
pub use Rattle.nit_hall.specs.ServedLines.{input_phases_before, is_served, lines_of_all}
pub use Rattle.nit_hall.specs.ServedLines.{lines_to_call, phases_before, served, user_actions_in}
pub use Rattle.nit_hall.specs.Stretch.{HasStretch, KnowsStretch, line_stages, stretch, stretch_end}
pub use Rattle.nit_hall.specs.Stretch.{strokes_in_front, watching_sight}
pub use Rattle.nit_hall.specs.declared.pass.PassRest.{PassRest}
