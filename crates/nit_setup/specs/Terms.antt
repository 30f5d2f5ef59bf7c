-- The words that clauses use: those that come from outside, and those of this crate.
pub use Rattle.nit_setup.specs.Asked.{IsReadAlone, IsReadAs, IsReadBeside, asks_alone, asks_beside}
pub use Rattle.nit_setup.specs.Asked.{asks_for}
pub use Rattle.nit_setup.specs.Below.{AllByRecursion, AllZip, AreClipsOf, AreLines, ClipLine}
pub use Rattle.nit_setup.specs.Below.{Configuration, End, Entry, Fault, File, FitsClipLine}
pub use Rattle.nit_setup.specs.Below.{FitsInputLine, FitsLine, HasOneReading, HaveSamePhases}
pub use Rattle.nit_setup.specs.Below.{IfNone, IfSome, InputLine, IsGood, IsRunConfiguration}
pub use Rattle.nit_setup.specs.Below.{IsRunMember, IsRunnable, Line, Loaded, Member, ReadsClient}
pub use Rattle.nit_setup.specs.Below.{ReadsInput, Region, RunFiles, Setup, Stop, StopName}
pub use Rattle.nit_setup.specs.Below.{StoreModel, asking_all, by_turns, bytes_eq, bytes_of}
pub use Rattle.nit_setup.specs.Below.{calls_to_make, client_script, client_text, clip_line_spelling}
pub use Rattle.nit_setup.specs.Below.{clip_phases, cond, count_by, decimal, false, find, frames_of}
pub use Rattle.nit_setup.specs.Below.{generated, idle_user, input_phases, input_spelling}
pub use Rattle.nit_setup.specs.Below.{is_clip_phase, is_file_name, is_input_phase, is_phase}
pub use Rattle.nit_setup.specs.Below.{is_shot_line, is_some, is_too_long, line_spelling}
pub use Rattle.nit_setup.specs.Below.{most_file_name, most_lines, most_run_height, most_run_width}
pub use Rattle.nit_setup.specs.Below.{nest_of, number_end, option_map, phases, phases_by}
pub use Rattle.nit_setup.specs.Below.{range_with_len, run_files, setup_of, slice_get}
pub use Rattle.nit_setup.specs.Below.{still_configuration, still_setup, user_actions_to_do}
pub use Rattle.nit_setup.specs.Below.{user_script, with_asked}
pub use Rattle.nit_setup.specs.ClipsRead.{AreClipsRead, LoadedClips, StoppedAtClip}
pub use Rattle.nit_setup.specs.Command.{Audit, Capture, Clip, Command, Gen, Nested, NoCommand, Run}
pub use Rattle.nit_setup.specs.Command.{Still, capture, capture_command, command, gen, natural_of}
pub use Rattle.nit_setup.specs.Command.{number_up_to, pair_of, run_of, still, still_of, texts}
pub use Rattle.nit_setup.specs.FilesRead.{AllFiles, AllScripts, AreAllOuterFiles, AreAllScripts}
pub use Rattle.nit_setup.specs.FilesRead.{AreFirstClips, AreFirstFiles, BothFiles, FilesRead}
pub use Rattle.nit_setup.specs.FilesRead.{FirstFiles, HasRead, InnerFiles, IsOuter, IsSetupOf}
pub use Rattle.nit_setup.specs.FilesRead.{NoFile, OuterFiles, first_names, names_read, next_name}
pub use Rattle.nit_setup.specs.JournalFiles.{HasVerdict, IsJournalFault, IsJournalText}
pub use Rattle.nit_setup.specs.JournalFiles.{IsNoJournalText, most_journal_bytes}
pub use Rattle.nit_setup.specs.Judgement.{AreClipScripts, AreOuterFiles, AreSetup, IsClientFault}
pub use Rattle.nit_setup.specs.Judgement.{IsClientScript, IsClipFault, IsClipScript, IsConfig}
pub use Rattle.nit_setup.specs.Judgement.{IsConfigFault, IsFaulty, IsFirstClipFault, IsFirstFault}
pub use Rattle.nit_setup.specs.Judgement.{IsFirstOuterFault, IsInputFault, IsInputScript}
pub use Rattle.nit_setup.specs.Judgement.{IsInputsFault, IsOuterFault, IsOuterInputFault}
pub use Rattle.nit_setup.specs.Judgement.{IsOuterScript, IsOuterSetupFault, IsPhasedFault}
pub use Rattle.nit_setup.specs.Judgement.{IsPhasedScript, IsScript, IsSetupFault, IsValid, Judged}
pub use Rattle.nit_setup.specs.Judgement.{MayShowFrames, Refused, SpellScripts, clip_name}
pub use Rattle.nit_setup.specs.Judgement.{clip_names, fault_code, first_other, misfit, most_bytes}
pub use Rattle.nit_setup.specs.Judgement.{names_in, phase_counts, reads, script_names, too_long_for}
pub use Rattle.nit_setup.specs.Judgement.{wanted_by, wrong_client, wrong_clip, wrong_input}
pub use Rattle.nit_setup.specs.Judgement.{wrong_lines, wrong_outer, wrong_phases}
pub use Rattle.nit_setup.specs.OuterRead.{OuterLoaded, OuterSoFar, OuterStopped, ReadOuter}
pub use Rattle.nit_setup.specs.Reading.{FileJudged, JudgedBytes, LoadedAll, ReadFor, ReadScripts}
pub use Rattle.nit_setup.specs.Reading.{SoFar, StoppedAmong, StoppedAt, StoppedBy, end_of_journal}
pub use Rattle.nit_setup.specs.Reading.{end_of_script}
pub use Rattle.nit_setup.specs.SetupRead.{AuditRead, BothRead, ClipSetupRead, ConfigRead, IsLoaded}
pub use Rattle.nit_setup.specs.SetupRead.{IsOuterLoaded, OuterRunRead, PictureRead, ReadsTo}
pub use Rattle.nit_setup.specs.SetupRead.{RunRead, SetupRead, StoppedReading, files_in, setup_in}
pub use Rattle.nit_setup.specs.StopNames.{IsNameOf, first_name, name_text, script_text, second_name}
