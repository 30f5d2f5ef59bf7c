-- The words of the library and of the crates below that are used here, and the crate's plain types.
pub use Rattle.nit_config.specs.Configuration.{Configuration}
pub use Rattle.nit_config.specs.ConfigurationRanges.{IsRunConfiguration, IsRunMember}
pub use Rattle.nit_config.specs.declared.config.Member.{Member}
pub use Rattle.nit_events.specs.Input.{deliveries_of, delivery, routed_as}
pub use Rattle.nit_events.specs.Ranges.{IsCode, IsWheel, most_read}
pub use Rattle.nit_events.specs.Text.{is_printable, is_text}
pub use Rattle.nit_events.specs.declared.call.Call.{Call}
pub use Rattle.nit_events.specs.declared.call.Reply.{Reply}
pub use Rattle.nit_events.specs.declared.device.Device.{Device}
pub use Rattle.nit_events.specs.declared.entry.Entry.{Entry}
pub use Rattle.nit_events.specs.declared.event.Delivery.{Delivery}
pub use Rattle.nit_events.specs.declared.event.Event.{Event}
pub use Rattle.nit_events.specs.declared.event.Item.{Item}
pub use Rattle.nit_events.specs.declared.event.Routed.{Routed}
pub use Rattle.nit_events.specs.declared.event.Status.{Status}
pub use Rattle.nit_events.specs.declared.event.Status.TheVariants.{Closed, Killed, Live}
pub use Rattle.nit_glyph.specs.Lettering.{plain}
pub use Rattle.nit_glyph.specs.Texts.{is_label}
pub use Rattle.nit_rect.specs.Limits.{most_height, most_width}
pub use Rattle.nit_rect.specs.Options.{Gives}
pub use Rattle.nit_report.specs.declared.drawn_lines.BufferPart.{BufferPart}
pub use Rattle.nit_report.specs.declared.error.JournalError.{JournalError}
pub use Rattle.nit_report.specs.declared.error.JournalError.TheVariants.{Bad, NoMemory}
pub use Rattle.nit_report.specs.declared.events.Ending.{Ending}
pub use Rattle.nit_script.specs.CallReaders.{call_at}
pub use Rattle.nit_script.specs.FieldReaders.{at_both, at_ended, at_kind, at_made, at_spaced}
pub use Rattle.nit_script.specs.FieldReaders.{at_tested, first_of, nat_field, nothing_at}
pub use Rattle.nit_script.specs.Grammar.{Begins, HasNoReading, HasOneReading, Reads, ReadsClient}
pub use Rattle.nit_script.specs.Grammar.{ReadsInput, most_lines, spelled}
pub use Rattle.nit_script.specs.InputReaders.{device_at}
pub use Rattle.nit_script.specs.Phases.{input_phases, is_input_phase, is_phase, phases}
pub use Rattle.nit_script.specs.Spelling.{FitsCall, FitsDevice, FitsInputLine, FitsInt, FitsLine}
pub use Rattle.nit_script.specs.Spelling.{FitsNat, FitsPointerPlace, call_spelling, device_spelling}
pub use Rattle.nit_script.specs.Spelling.{input_spelling, int, line_spelling, nat}
pub use Rattle.nit_script.specs.declared.line.InputLine.{InputLine}
pub use Rattle.nit_script.specs.declared.line.Line.{Line}
pub use Rattle.nit_script.specs.declared.line.Stroke.TheVariants.{Check, Fill}
pub use Rattle.nit_word.specs.Channels.{channels}
pub use Rattle.nit_word.specs.Inks.{IsWord}
pub use Rattle.std.specs.Fmt.{decimal}
pub use Rattle.std.specs.List.{AllByRecursion, AllZip, flat_map, range_with_len}
pub use Rattle.std.specs.Prelude.{IfOk, IsOkAnd, List, codes, ℕ}
