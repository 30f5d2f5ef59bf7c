-- The words that clauses use: those that come from outside, and those of this crate.
pub use Rattle.nit_top.specs.AddedFiles.{AreAdded, is_outside_of}
pub use Rattle.nit_top.specs.Answer.{Answer, Came, Counts, HasValidFiles, IsEarly, IsValidSo}
pub use Rattle.nit_top.specs.Answer.{NoFault, SaysLine, code_of, said_also, status_of}
pub use Rattle.nit_top.specs.Audited.{AreAudited, AuditOr, IsAudit, IsAuditEnd, IsAudited}
pub use Rattle.nit_top.specs.Below.{ActorLine, AgreeInRegion, All, AllAgreeInRegion, AllByRecursion}
pub use Rattle.nit_top.specs.Below.{AllFiles, AllScripts, AllZip, AreAllFiles, AreAllOuterFiles}
pub use Rattle.nit_top.specs.Below.{AreAllScripts, AreLines, AreOutputs, AreShots, AreTexts, Asked}
pub use Rattle.nit_top.specs.Below.{Audit, Bad, BothFiles, Buffer, ByClient, ByUser, Call, Calls}
pub use Rattle.nit_top.specs.Below.{CanPay, Capture, Clip, ClipEntry, Close, Command, Configuration}
pub use Rattle.nit_top.specs.Below.{Contains, Drawing, End, Entry, Event, Fault, File, FilesRead}
pub use Rattle.nit_top.specs.Below.{FirstShows, FitsInputLine, FitsLine, Gen, Gets}
pub use Rattle.nit_top.specs.Below.{HasDifferentNames, HasFilmed, HasPicture, HasPixels, HasRead}
pub use Rattle.nit_top.specs.Below.{HasRun, HaveOneScreen, HaveSameEvents, Headline, HoldsAtEnd}
pub use Rattle.nit_top.specs.Below.{HoldsInner, IfNone, IfSome, InputLine, IsAloneInRange}
pub use Rattle.nit_top.specs.Below.{IsAlwaysToldSo, IsBesideInRange, IsClipList, IsInnerJournal}
pub use Rattle.nit_top.specs.Below.{IsJournal, IsJournalFault, IsJournalText, IsLegal}
pub use Rattle.nit_top.specs.Below.{IsNearPicture, IsOuter, IsPicture, IsRefusedWith, IsRegionWords}
pub use Rattle.nit_top.specs.Below.{IsRunConfiguration, IsRunnable, IsSameClient, IsSetupOf}
pub use Rattle.nit_top.specs.Below.{IsSomeAnd, IsTrue, IsValid, IsVerdictOn, Item, Judged, LiesIn}
pub use Rattle.nit_top.specs.Below.{Line, LineTurn, MayShowFrames, Member, NestError, NestModel}
pub use Rattle.nit_top.specs.Below.{Nested, NestsRun, NeverHasFocus, NoCommand, NoFile, NoMemory}
pub use Rattle.nit_top.specs.Below.{Observation, Phases, PixelSource, Point, PutEach, PutError}
pub use Rattle.nit_top.specs.Below.{PutFault, PutFiles, PutRefusal, PutState, PutsAll, PutsNext}
pub use Rattle.nit_top.specs.Below.{Ran, ReadsClient, ReadsJournal, Rectangle, Refused, Region}
pub use Rattle.nit_top.specs.Below.{Reply, Rose, Run, RunFiles, Session, Setup, ShotFrame, Shows}
pub use Rattle.nit_top.specs.Below.{ShowsFrames, ShowsNest, Size, State, Status, Still, Stop}
pub use Rattle.nit_top.specs.Below.{StopName, StoppedAt, StoppedBy, StoppedReading, StoreModel}
pub use Rattle.nit_top.specs.Below.{Take, TellsInnerRun, TooLong, View, Word, Worked, accepted}
pub use Rattle.nit_top.specs.Below.{after, after_observations, after_turn, alone_machine, among}
pub use Rattle.nit_top.specs.Below.{asked_also, asking_all, asks_alone, asks_beside, asks_for}
pub use Rattle.nit_top.specs.Below.{begun_of, black_or_word, buffer_place, buffer_size, by_call}
pub use Rattle.nit_top.specs.Below.{by_life, by_refusal, by_status, by_turns, bytes_of, calls_in}
pub use Rattle.nit_top.specs.Below.{calls_of, calls_to_make, client_script, clip_name, clip_text}
pub use Rattle.nit_top.specs.Below.{clips_name, clips_setup_of, codes, command, command_of}
pub use Rattle.nit_top.specs.Below.{count_by, crop, crop_pixel, decimal, donation_of, done}
pub use Rattle.nit_top.specs.Below.{drawn_shot, ending_of, ending_text, event_spelling}
pub use Rattle.nit_top.specs.Below.{events_among, events_file, events_files, events_name, false}
pub use Rattle.nit_top.specs.Below.{fault_code, file_at, file_names, files_in, film_name, film_of}
pub use Rattle.nit_top.specs.Below.{final_name, final_picture, first_capture, first_forbidden}
pub use Rattle.nit_top.specs.Below.{first_name, first_other, first_session, first_state, flat_map}
pub use Rattle.nit_top.specs.Below.{frame_of, frames_behind, frames_of, generated, generated_files}
pub use Rattle.nit_top.specs.Below.{generated_setup, idle_user, index_at, inner_journal_name}
pub use Rattle.nit_top.specs.Below.{input_phases, is_accepted, is_off_screen, is_shot_line, is_some}
pub use Rattle.nit_top.specs.Below.{is_too_long, journal_file, journal_text, last_frame}
pub use Rattle.nit_top.specs.Below.{lines_of_frames, list_any, member, misfit, most_journal_bytes}
pub use Rattle.nit_top.specs.Below.{most_run_height, most_run_width, name_text, names_in}
pub use Rattle.nit_top.specs.Below.{names_read, nest_of, nest_script, nested_setup, next_frame}
pub use Rattle.nit_top.specs.Below.{next_name, number_end, opening_drawing, option_map, output_name}
pub use Rattle.nit_top.specs.Below.{owner_of, phase_counts, phases, picture, picture_header}
pub use Rattle.nit_top.specs.Below.{picture_of, pictures_in, pixel, pos, projection}
pub use Rattle.nit_top.specs.Below.{put_state_of_run, range_with_len, raw_word, reads, receive}
pub use Rattle.nit_top.specs.Below.{rectangle, rectangle_of, refusal, refusal_of, replay}
pub use Rattle.nit_top.specs.Below.{replies_to, rounds, run_files, screen, script_in, script_names}
pub use Rattle.nit_top.specs.Below.{second_name, session, setup_in, setup_of, shot_file}
pub use Rattle.nit_top.specs.Below.{shot_frames_of, shots, shots_after, shots_of, shown_first}
pub use Rattle.nit_top.specs.Below.{shown_index, slice_index, source_at, source_under, spans}
pub use Rattle.nit_top.specs.Below.{spelled, starts_threads, static, still_configuration}
pub use Rattle.nit_top.specs.Below.{still_setup, stream, tables_left, taken, taking, text_files}
pub use Rattle.nit_top.specs.Below.{texts, too_long_for, true, unless_other, unrefused}
pub use Rattle.nit_top.specs.Below.{user_actions_from, user_actions_of, user_actions_to_do}
pub use Rattle.nit_top.specs.Below.{user_script, with_asked, with_said, word_from, word_of_bytes}
pub use Rattle.nit_top.specs.Below.{word_seen, words_left, woven}
pub use Rattle.nit_top.specs.CaptureWork.{PerformedFilmed}
pub use Rattle.nit_top.specs.ClipWork.{PerformedClips}
pub use Rattle.nit_top.specs.CommandEnd.{Ended, Finished}
pub use Rattle.nit_top.specs.Course.{Begun, Course, IsBothRead, IsCommandRun, IsCutShort}
pub use Rattle.nit_top.specs.Course.{IsLastRead, IsMadeBefore, IsMadeInPart, IsMadeUpTo, IsNotBegun}
pub use Rattle.nit_top.specs.Course.{IsOutside, IsPutBefore, IsPutWhole, IsRefusedAt, NotBegun}
pub use Rattle.nit_top.specs.Course.{WithRun, WithoutRun, made_by, totals}
pub use Rattle.nit_top.specs.InnerEnd.{IsInnerEnd, MayCome, end_of_nest}
pub use Rattle.nit_top.specs.NestedRun.{IsAfterNested, PerformedNested}
pub use Rattle.nit_top.specs.ProgramLines.{Totals, audited_line, bad_configuration_line, fault_line}
pub use Rattle.nit_top.specs.ProgramLines.{generated_line, kind_text, line_of, numbered_line}
pub use Rattle.nit_top.specs.ProgramLines.{piece_text, summary_line}
pub use Rattle.nit_top.specs.SaidText.{SayingRefused, Says}
pub use Rattle.nit_top.specs.Stored.{AreStored, Stand, StandIn, to_put}
pub use Rattle.nit_top.specs.Work.{Ends, IsAfterRun, Performed, end_of_put, end_of_run, line_on}
