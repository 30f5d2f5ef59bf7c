-- The words of the library and of the crates below that are used here, and the crate's plain types.
pub use Rattle.nit_actor.specs.IdleUser.{idle_user}
pub use Rattle.nit_audit.specs.GoodEntries.{IsGood}
pub use Rattle.nit_audit.specs.Verdict.{IsVerdict}
pub use Rattle.nit_audit.specs.declared.auditing.Verdict.{Verdict}
pub use Rattle.nit_clip.specs.ClipGrammar.{clip_phases, is_clip_phase}
pub use Rattle.nit_clip.specs.ClipSpelling.{FitsClipLine, clip_line_spelling}
pub use Rattle.nit_clip.specs.declared.line.ClipLine.{ClipLine}
pub use Rattle.nit_config.specs.Configuration.{Configuration, is_file_name, most_file_name}
pub use Rattle.nit_config.specs.Configuration.{still_configuration}
pub use Rattle.nit_config.specs.ConfigurationRanges.{IsRunConfiguration, IsRunMember}
pub use Rattle.nit_config.specs.ConfigurationText.{IsConfigurationOf}
pub use Rattle.nit_config.specs.declared.config.Member.{Member}
pub use Rattle.nit_events.specs.declared.entry.Entry.{Entry}
pub use Rattle.nit_nested.specs.FrameScript.{first_forbidden}
pub use Rattle.nit_plan.specs.Calls.{calls_to_make, user_actions_to_do}
pub use Rattle.nit_rect.specs.Limits.{most_run_height, most_run_width}
pub use Rattle.nit_report.specs.Generator.{client_script, client_text, generated, is_shot_line}
pub use Rattle.nit_report.specs.Generator.{user_script}
pub use Rattle.nit_report.specs.JournalText.{IsFirstBadEntry, ReadsJournal}
pub use Rattle.nit_report.specs.declared.error.JournalError.{JournalError}
pub use Rattle.nit_run.specs.InnerFrames.{FirstShows, frames_of, is_too_long, nest_of, nested_setup}
pub use Rattle.nit_run.specs.OutputNames.{output_name}
pub use Rattle.nit_run.specs.PutFiles.{asking_all}
pub use Rattle.nit_run.specs.Region.{IsRegionWords, number_end}
pub use Rattle.nit_run.specs.Setup.{AreClipsOf, AreLines, HaveSamePhases, IsRunnable, RunFiles}
pub use Rattle.nit_run.specs.Setup.{Setup, by_turns, generated_setup, run_files, setup_of}
pub use Rattle.nit_run.specs.Setup.{still_setup}
pub use Rattle.nit_run.specs.declared.region.Region.{Region}
pub use Rattle.nit_run.specs.declared.scripts.Scripts.{Scripts}
pub use Rattle.nit_script.specs.Grammar.{HasOneReading, IsFirstBad, IsTooLong, Reads, ReadsClient}
pub use Rattle.nit_script.specs.Grammar.{ReadsInput, most_lines}
pub use Rattle.nit_script.specs.Phases.{input_phases, is_input_phase, is_phase, phases, phases_by}
pub use Rattle.nit_script.specs.Spelling.{FitsInputLine, FitsLine, input_spelling, line_spelling}
pub use Rattle.nit_script.specs.declared.error.ScriptError.{ScriptError}
pub use Rattle.nit_script.specs.declared.line.InputLine.{InputLine}
pub use Rattle.nit_script.specs.declared.line.Line.{Line}
pub use Rattle.nit_setup.specs.declared.read.Loaded.{Loaded}
pub use Rattle.nit_setup.specs.declared.read.OneScript.{OneScript}
pub use Rattle.nit_setup.specs.declared.read.TwoRuns.{TwoRuns}
pub use Rattle.nit_setup.specs.declared.read.WithClips.{WithClips}
pub use Rattle.nit_setup.specs.declared.read.WithJournal.{WithJournal}
pub use Rattle.nit_setup.specs.declared.stop.End.{End}
pub use Rattle.nit_setup.specs.declared.stop.Fault.{Fault}
pub use Rattle.nit_setup.specs.declared.stop.ScriptName.{ScriptName}
pub use Rattle.nit_setup.specs.declared.stop.Stop.{Stop}
pub use Rattle.nit_setup.specs.declared.stop.StopName.{StopName}
pub use Rattle.nit_setup.specs.declared.words.Asked.{Asked}
pub use Rattle.nit_setup.specs.declared.words.AskedAlone.{AskedAlone}
pub use Rattle.nit_setup.specs.declared.words.AskedBeside.{AskedBeside}
pub use Rattle.nit_store.specs.Store.{File, ReadFaulted, StoreModel, bytes_of, with_asked}
pub use Rattle.nit_store.specs.StoreAnswers.{AskedAtMost}
pub use Rattle.std.specs.Fmt.{decimal}
pub use Rattle.std.specs.Global.{Global}
pub use Rattle.std.specs.List.{AllByRecursion, AllZip, range_with_len}
pub use Rattle.std.specs.Option.{is_some}
pub use Rattle.std.specs.Prelude.{IfNone, IfSome, List, cond, count_by, false, find, option_map}
pub use Rattle.std.specs.Prelude.{slice_get, ℕ}
pub use Rattle.std.specs.Str.{bytes_eq}
pub use Rattle.std.specs.String.{string_bytes}
