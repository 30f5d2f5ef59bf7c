-- The words of the library and of the crates below that are used here, and the crate's plain types.
pub use Rattle.nit_clip.specs.declared.call.ClipCall.{ClipCall}
pub use Rattle.nit_clip.specs.declared.call.ClipEntry.{ClipEntry}
pub use Rattle.nit_clip.specs.declared.call.ClipReply.{ClipReply}
pub use Rattle.nit_clip.specs.declared.line.ClipLine.{ClipLine}
pub use Rattle.nit_events.specs.Text.{is_printable}
pub use Rattle.nit_events.specs.declared.call.Call.{Call}
pub use Rattle.nit_events.specs.declared.entry.Entry.{Entry}
pub use Rattle.nit_journal.specs.Configuration.{Configuration}
pub use Rattle.nit_journal.specs.Replay.{IsOpen, replay}
pub use Rattle.nit_journal.specs.WholeJournals.{UserAction, calls_of, done, left, next_phase}
pub use Rattle.nit_journal.specs.WholeJournals.{phases_along, to_do}
pub use Rattle.nit_rect.specs.Options.{Gives}
pub use Rattle.nit_script.specs.FieldReaders.{at_ended, at_kind, at_made, first_of, nothing_at}
pub use Rattle.nit_script.specs.FieldReaders.{text_field}
pub use Rattle.nit_script.specs.Grammar.{HasOneReading, IsFirstBad, IsTooLong, Reads, UnlessMemory}
pub use Rattle.nit_script.specs.Grammar.{most_lines, spelled}
pub use Rattle.nit_script.specs.Phases.{phases_by}
pub use Rattle.nit_script.specs.Spelling.{FitsText, nat, text}
pub use Rattle.std.specs.Fmt.{decimal}
pub use Rattle.std.specs.List.{AllByRecursion, flat_map, list_all, slice_get}
pub use Rattle.std.specs.Prelude.{Bool, List, Option, codes, count_by, false, not, true, ℕ}
pub use Rattle.std.specs.Str.Parse.{AllDigits}
