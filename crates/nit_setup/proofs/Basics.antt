-- What lemmas use: the words of clauses, the library's lemmas, and those of the crates below.
pub use Rattle.nit_audit.proofs.ForCallers.{good_fewer, one_verdict}
pub use Rattle.nit_clip.proofs.ForCallers.{clip_reading}
pub use Rattle.nit_config.proofs.ForCallers.{not_both, one_configuration, still_configured}
pub use Rattle.nit_report.proofs.ForCallers.{journal_reading}
pub use Rattle.nit_run.proofs.ForCallers.{all_at, asking_both, asking_more, asking_none, text_at}
pub use Rattle.nit_script.proofs.ForCallers.{client_reading, fits_push, input_reading, read_and_bad}
pub use Rattle.nit_script.proofs.ForCallers.{read_and_long, same_read}
pub use Rattle.nit_setup.specs.Terms.{AllByRecursion, AllFiles, AllScripts, AllZip}
pub use Rattle.nit_setup.specs.Terms.{AreAllOuterFiles, AreAllScripts, AreClipScripts, AreClipsOf}
pub use Rattle.nit_setup.specs.Terms.{AreClipsRead, AreFirstClips, AreFirstFiles, AreLines}
pub use Rattle.nit_setup.specs.Terms.{AreOuterFiles, AreSetup, Audit, BothFiles, Capture, Clip}
pub use Rattle.nit_setup.specs.Terms.{ClipLine, Command, ConfigRead, Configuration, End, Entry}
pub use Rattle.nit_setup.specs.Terms.{Fault, File, FilesRead, FirstFiles, FitsClipLine}
pub use Rattle.nit_setup.specs.Terms.{FitsInputLine, FitsLine, Gen, HasOneReading, HasRead}
pub use Rattle.nit_setup.specs.Terms.{HasVerdict, HaveSamePhases, IfNone, IfSome, InnerFiles}
pub use Rattle.nit_setup.specs.Terms.{InputLine, IsClientFault, IsClientScript, IsClipFault}
pub use Rattle.nit_setup.specs.Terms.{IsClipScript, IsConfig, IsConfigFault, IsFaulty}
pub use Rattle.nit_setup.specs.Terms.{IsFirstClipFault, IsFirstFault, IsFirstOuterFault, IsGood}
pub use Rattle.nit_setup.specs.Terms.{IsInputFault, IsInputsFault, IsJournalFault, IsJournalText}
pub use Rattle.nit_setup.specs.Terms.{IsLoaded, IsNameOf, IsNoJournalText, IsOuterFault}
pub use Rattle.nit_setup.specs.Terms.{IsOuterInputFault, IsOuterLoaded, IsOuterScript}
pub use Rattle.nit_setup.specs.Terms.{IsOuterSetupFault, IsPhasedFault, IsRunConfiguration}
pub use Rattle.nit_setup.specs.Terms.{IsRunMember, IsRunnable, IsScript, IsSetupFault, IsSetupOf}
pub use Rattle.nit_setup.specs.Terms.{IsValid, Judged, Line, Loaded, MayShowFrames, Member, Nested}
pub use Rattle.nit_setup.specs.Terms.{NoCommand, NoFile, OuterFiles, OuterRunRead, OuterSoFar}
pub use Rattle.nit_setup.specs.Terms.{OuterStopped, ReadsTo, Refused, Region, Run, RunFiles}
pub use Rattle.nit_setup.specs.Terms.{RunRead, Setup, SetupRead, SoFar, SpellScripts, Still, Stop}
pub use Rattle.nit_setup.specs.Terms.{StopName, StoppedAmong, StoppedAt, StoppedAtClip, StoppedBy}
pub use Rattle.nit_setup.specs.Terms.{StoppedReading, StoreModel, asking_all, by_turns, bytes_eq}
pub use Rattle.nit_setup.specs.Terms.{bytes_of, calls_to_make, client_script, clip_line_spelling}
pub use Rattle.nit_setup.specs.Terms.{clip_name, clip_names, clip_phases, cond, count_by, decimal}
pub use Rattle.nit_setup.specs.Terms.{false, fault_code, files_in, find, first_names, first_other}
pub use Rattle.nit_setup.specs.Terms.{frames_of, idle_user, input_phases, input_spelling}
pub use Rattle.nit_setup.specs.Terms.{is_clip_phase, is_file_name, is_input_phase, is_phase}
pub use Rattle.nit_setup.specs.Terms.{is_some, is_too_long, line_spelling, misfit, name_text}
pub use Rattle.nit_setup.specs.Terms.{names_in, names_read, nest_of, next_name, option_map}
pub use Rattle.nit_setup.specs.Terms.{phase_counts, phases, phases_by, range_with_len, reads}
pub use Rattle.nit_setup.specs.Terms.{script_names, setup_in, setup_of, slice_get, still_setup}
pub use Rattle.nit_setup.specs.Terms.{too_long_for, user_actions_to_do, wanted_by, with_asked}
pub use Rattle.nit_setup.specs.Terms.{wrong_client, wrong_clip, wrong_input, wrong_outer}
pub use Rattle.nit_setup.specs.Terms.{wrong_phases}
pub use Rattle.std.proofs.Common.{None, Some, [], add-one, ap, arith, inl, inr, map, refl, sym}
pub use Rattle.std.proofs.Common.{take, true, ◌∙◌}
pub use Rattle.std.proofs.Math.Seq.{take-append_seam}
pub use Rattle.std.proofs.lemmas.Bool.{and_parts, eq-eqb, leb-true, ne_eqb}
pub use Rattle.std.proofs.lemmas.Bool.Decides.{nat_tests}
pub use Rattle.std.proofs.lemmas.Fmt.{decimal_injective}
pub use Rattle.std.proofs.lemmas.List.{append-nil, length-map, length-replicate, length_push}
pub use Rattle.std.proofs.lemmas.List.{map-append, map_push, take_more}
pub use Rattle.std.proofs.lemmas.List.Elements.{All-get_or, All-head, All-tail}
pub use Rattle.std.proofs.lemmas.List.Folds.{sum_by-replicate}
pub use Rattle.std.proofs.lemmas.List.Sums.{count_by-le-length}
pub use Rattle.std.proofs.lemmas.Option.{IfSome_then, none-some}
pub use Rattle.std.proofs.lemmas.Slice.Eq.{bytes_eq-Decides}
