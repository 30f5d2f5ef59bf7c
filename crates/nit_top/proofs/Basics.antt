-- What lemmas use: the words of clauses, the library's lemmas, and those of the crates below.
pub use Rattle.nit_config.proofs.ForCallers.{one_configuration}
pub use Rattle.nit_hall.proofs.ForCallers.{not_both}
pub use Rattle.nit_journal.proofs.ForCallers.{first_none}
pub use Rattle.nit_perform.proofs.ForCallers.{DrawnLaw, PutAll, PutRefused, PutSo, PutUntil}
pub use Rattle.nit_perform.proofs.ForCallers.{UserOnce, all_put, frames_counted, none_is}
pub use Rattle.nit_rect.proofs.ForCallers.{all_append, and_true, spans_holds, spans_tells}
pub use Rattle.nit_run.proofs.ForCallers.{Apart, Begin, BeginOther, FrontsLaw, MachinesLaw}
pub use Rattle.nit_run.proofs.ForCallers.{Numbered, OtherThan, ShotsLaw, actions_few, also_more}
pub use Rattle.nit_run.proofs.ForCallers.{also_none, apart_by, apart_front, apart_of, asking_more}
pub use Rattle.nit_run.proofs.ForCallers.{asking_none, begin_other, differ, drawn_along}
pub use Rattle.nit_run.proofs.ForCallers.{events_begin, events_taken, numbered, other_letter}
pub use Rattle.nit_run.proofs.ForCallers.{shots_apart_all, shots_begin, stays, texts_other}
pub use Rattle.nit_setup.proofs.ForCallers.{all_so, all_wanted, by_length, codes_agree}
pub use Rattle.nit_setup.proofs.ForCallers.{journal_stopped, one_wanted, other_phases, other_short}
pub use Rattle.nit_setup.proofs.ForCallers.{told_so_both, valid_not_refused}
pub use Rattle.nit_store.proofs.ForCallers.{puts_more, saying-saying}
pub use Rattle.nit_top.specs.Terms.{ActorLine, AgreeInRegion, All, AllAgreeInRegion, AllByRecursion}
pub use Rattle.nit_top.specs.Terms.{AllFiles, AllScripts, AllZip, Answer, AreAdded, AreAllFiles}
pub use Rattle.nit_top.specs.Terms.{AreAllOuterFiles, AreAllScripts, AreAudited, AreLines}
pub use Rattle.nit_top.specs.Terms.{AreOutputs, AreShots, AreStored, AreTexts, Asked, Audit}
pub use Rattle.nit_top.specs.Terms.{AuditOr, Bad, Begun, BothFiles, Buffer, ByClient, ByUser, Call}
pub use Rattle.nit_top.specs.Terms.{Calls, Came, CanPay, Capture, Clip, Close, Command}
pub use Rattle.nit_top.specs.Terms.{Configuration, Contains, Counts, Course, Drawing, End, Ended}
pub use Rattle.nit_top.specs.Terms.{Ends, Entry, Event, Fault, File, FilesRead, Finished}
pub use Rattle.nit_top.specs.Terms.{FirstShows, FitsInputLine, FitsLine, Gen, Gets}
pub use Rattle.nit_top.specs.Terms.{HasDifferentNames, HasFilmed, HasPixels, HasRead, HasRun}
pub use Rattle.nit_top.specs.Terms.{HasValidFiles, HaveOneScreen, HaveSameEvents, Headline}
pub use Rattle.nit_top.specs.Terms.{HoldsAtEnd, IfNone, IfSome, InputLine, IsAfterNested}
pub use Rattle.nit_top.specs.Terms.{IsAfterRun, IsAudit, IsAuditEnd, IsAudited, IsBothRead}
pub use Rattle.nit_top.specs.Terms.{IsCommandRun, IsCutShort, IsEarly, IsInnerEnd, IsInnerJournal}
pub use Rattle.nit_top.specs.Terms.{IsJournal, IsJournalFault, IsJournalText, IsLastRead, IsLegal}
pub use Rattle.nit_top.specs.Terms.{IsMadeBefore, IsMadeInPart, IsMadeUpTo, IsNearPicture}
pub use Rattle.nit_top.specs.Terms.{IsNotBegun, IsOuter, IsOutside, IsPicture, IsPutBefore}
pub use Rattle.nit_top.specs.Terms.{IsPutWhole, IsRefusedAt, IsRefusedWith, IsRunConfiguration}
pub use Rattle.nit_top.specs.Terms.{IsRunnable, IsSameClient, IsSetupOf, IsSomeAnd, IsTrue, IsValid}
pub use Rattle.nit_top.specs.Terms.{IsValidSo, Item, Judged, LiesIn, Line, LineTurn, MayCome}
pub use Rattle.nit_top.specs.Terms.{MayShowFrames, Member, NestError, NestModel, Nested, NestsRun}
pub use Rattle.nit_top.specs.Terms.{NoCommand, NoFault, NoFile, NoMemory, NotBegun, Observation}
pub use Rattle.nit_top.specs.Terms.{Performed, PerformedClips, PerformedFilmed, PerformedNested}
pub use Rattle.nit_top.specs.Terms.{Phases, PixelSource, Point, PutEach, PutError, PutFault}
pub use Rattle.nit_top.specs.Terms.{PutFiles, PutRefusal, PutState, PutsAll, PutsNext, Ran}
pub use Rattle.nit_top.specs.Terms.{ReadsClient, Rectangle, Refused, Region, Reply, Rose, RunFiles}
pub use Rattle.nit_top.specs.Terms.{SayingRefused, Says, SaysLine, Session, Setup, ShotFrame, Shows}
pub use Rattle.nit_top.specs.Terms.{ShowsFrames, ShowsNest, Size, Stand, StandIn, State, Status}
pub use Rattle.nit_top.specs.Terms.{Still, Stop, StopName, StoppedAt, StoppedBy, StoppedReading}
pub use Rattle.nit_top.specs.Terms.{StoreModel, Take, TooLong, Totals, View, WithRun, WithoutRun}
pub use Rattle.nit_top.specs.Terms.{Word, Worked, accepted, after, after_observations, after_turn}
pub use Rattle.nit_top.specs.Terms.{alone_machine, among, asked_also, asking_all, asks_for}
pub use Rattle.nit_top.specs.Terms.{audited_line, begun_of, black_or_word, buffer_place}
pub use Rattle.nit_top.specs.Terms.{buffer_size, by_call, by_life, by_refusal, by_status, by_turns}
pub use Rattle.nit_top.specs.Terms.{bytes_of, calls_in, calls_of, calls_to_make, client_script}
pub use Rattle.nit_top.specs.Terms.{code_of, codes, command, command_of, count_by, crop, crop_pixel}
pub use Rattle.nit_top.specs.Terms.{decimal, donation_of, done, drawn_shot, end_of_nest, end_of_put}
pub use Rattle.nit_top.specs.Terms.{end_of_run, ending_of, ending_text, event_spelling}
pub use Rattle.nit_top.specs.Terms.{events_among, events_file, events_files, events_name, false}
pub use Rattle.nit_top.specs.Terms.{fault_code, file_at, file_names, files_in, film_name, film_of}
pub use Rattle.nit_top.specs.Terms.{final_name, final_picture, first_capture, first_forbidden}
pub use Rattle.nit_top.specs.Terms.{first_other, first_session, first_state, flat_map, frame_of}
pub use Rattle.nit_top.specs.Terms.{frames_behind, frames_of, generated_files, generated_line}
pub use Rattle.nit_top.specs.Terms.{generated_setup, idle_user, index_at, inner_journal_name}
pub use Rattle.nit_top.specs.Terms.{input_phases, is_accepted, is_outside_of, is_shot_line, is_some}
pub use Rattle.nit_top.specs.Terms.{is_too_long, journal_file, journal_text, last_frame, line_of}
pub use Rattle.nit_top.specs.Terms.{line_on, lines_of_frames, list_any, made_by, member, misfit}
pub use Rattle.nit_top.specs.Terms.{name_text, names_in, names_read, nest_of, nest_script}
pub use Rattle.nit_top.specs.Terms.{nested_setup, next_frame, next_name, opening_drawing}
pub use Rattle.nit_top.specs.Terms.{option_map, owner_of, phase_counts, phases, picture}
pub use Rattle.nit_top.specs.Terms.{picture_header, picture_of, pictures_in, piece_text, pixel, pos}
pub use Rattle.nit_top.specs.Terms.{projection, put_state_of_run, range_with_len, raw_word, reads}
pub use Rattle.nit_top.specs.Terms.{receive, rectangle, rectangle_of, refusal, refusal_of, replay}
pub use Rattle.nit_top.specs.Terms.{replies_to, rounds, run_files, said_also, screen, script_in}
pub use Rattle.nit_top.specs.Terms.{script_names, session, setup_in, setup_of, shot_file}
pub use Rattle.nit_top.specs.Terms.{shot_frames_of, shots, shots_after, shots_of, shown_first}
pub use Rattle.nit_top.specs.Terms.{shown_index, slice_index, source_at, source_under, spans}
pub use Rattle.nit_top.specs.Terms.{spelled, static, status_of, still_configuration, still_setup}
pub use Rattle.nit_top.specs.Terms.{stream, summary_line, tables_left, taken, taking, text_files}
pub use Rattle.nit_top.specs.Terms.{texts, to_put, too_long_for, totals, true, unless_other}
pub use Rattle.nit_top.specs.Terms.{unrefused, user_actions_from, user_actions_of}
pub use Rattle.nit_top.specs.Terms.{user_actions_to_do, user_script, with_asked, with_said}
pub use Rattle.nit_top.specs.Terms.{word_from, word_of_bytes, word_seen, words_left, woven}
pub use Rattle.std.proofs.Common.{Err, List, None, Some, ap, inl, map, refl, rules, subst, sym, ℕ}
pub use Rattle.std.proofs.Common.{◌∙◌}
pub use Rattle.std.proofs.Math.Dec.{eqb-suc-zero}
pub use Rattle.std.proofs.lemmas.Bool.{and_parts, cases_Bool, ltb-true}
pub use Rattle.std.proofs.lemmas.Fmt.{decimal_digit, decimal_step}
pub use Rattle.std.proofs.lemmas.Int.{ints}
pub use Rattle.std.proofs.lemmas.List.{append-nil, append_cancel_left, append_cancel_right}
pub use Rattle.std.proofs.lemmas.List.{get_or-take, length-map, map-append, take_all}
pub use Rattle.std.proofs.lemmas.List.Elements.{All-from_recursion}
pub use Rattle.std.proofs.lemmas.Nat.{div_below, mod_below, mul-add-lt}
pub use Rattle.std.proofs.lemmas.Option.{IfSome_then}
pub use Rattle.std.proofs.lemmas.Result.{err_from_is_err_and}
