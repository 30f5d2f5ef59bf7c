-- The words of the library and of the crates below that are used here, and the crate's plain types.
pub use Rattle.nit_events.specs.Ranges.{IsCode, IsWheel, least_turn, most_code, most_pointer}
pub use Rattle.nit_events.specs.Ranges.{most_turn}
pub use Rattle.nit_events.specs.Text.{is_printable, is_text}
pub use Rattle.nit_events.specs.declared.call.Call.{Call}
pub use Rattle.nit_events.specs.declared.call.Call.TheVariants.{Above, Back, Buffer, Close, Destroy}
pub use Rattle.nit_events.specs.declared.call.Call.TheVariants.{Front, Offset, Place, Refresh, Take}
pub use Rattle.nit_events.specs.declared.call.Call.TheVariants.{Title, Upgrade, View}
pub use Rattle.nit_events.specs.declared.device.Device.{Device}
pub use Rattle.nit_events.specs.declared.device.Device.TheVariants.{Motion, Press, Release, Wheel}
pub use Rattle.nit_rect.specs.Options.{Gives}
pub use Rattle.nit_script.specs.declared.error.ScriptError.{ScriptError}
pub use Rattle.nit_script.specs.declared.error.ScriptError.TheVariants.{Bad, NoMemory, TooLong}
pub use Rattle.nit_script.specs.declared.line.InputLine.{InputLine}
pub use Rattle.nit_script.specs.declared.line.Line.{Line}
pub use Rattle.nit_script.specs.declared.line.Stroke.{Stroke}
pub use Rattle.nit_script.specs.declared.line.Stroke.TheVariants.{Check, Fill}
pub use Rattle.nit_script.specs.declared.write.Field.{Field}
pub use Rattle.nit_script.specs.declared.write.Field.TheVariants.{Colour, Integer, Natural, Text}
pub use Rattle.std.specs.Char.{is_ascii_digit}
pub use Rattle.std.specs.Fmt.{decimal, signed_decimal}
pub use Rattle.std.specs.Global.{Global}
pub use Rattle.std.specs.Int.{is_in_range}
pub use Rattle.std.specs.List.{AllByRecursion, flat_map, list_all, prefix_len, starts_with}
pub use Rattle.std.specs.Option.{MatchOption}
pub use Rattle.std.specs.Prelude.{IfOk, IsOkAnd, List, Option, Vec, codes, not, ℕ}
pub use Rattle.std.specs.Str.Parse.{AllDigits, digits_value}
