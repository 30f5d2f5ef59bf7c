-- The words that clauses use: those that come from outside, and those of this crate.
pub use Rattle.nit_script.specs.Below.{Above, AllByRecursion, AllDigits, Back, Bad, Buffer, Call}
pub use Rattle.nit_script.specs.Below.{Check, Close, Destroy, Device, Fill, Front, Gives, Global}
pub use Rattle.nit_script.specs.Below.{IfOk, InputLine, IsCode, IsOkAnd, IsWheel, Line, MatchOption}
pub use Rattle.nit_script.specs.Below.{Motion, NoMemory, Offset, Place, Press, Refresh, Release}
pub use Rattle.nit_script.specs.Below.{ScriptError, Stroke, Take, Title, TooLong, Upgrade, Vec}
pub use Rattle.nit_script.specs.Below.{View, Wheel, codes, decimal, digits_value, flat_map}
pub use Rattle.nit_script.specs.Below.{is_ascii_digit, is_printable, is_text, list_all, not}
pub use Rattle.nit_script.specs.Below.{prefix_len, signed_decimal, starts_with}
pub use Rattle.nit_script.specs.CallReaders.{above_at, back_at, buffer_at, call_at, close_at}
pub use Rattle.nit_script.specs.CallReaders.{destroy_at, front_at, offset_at, place_call_at}
pub use Rattle.nit_script.specs.CallReaders.{refresh_at, session_call_at, title_at, upgrade_at}
pub use Rattle.nit_script.specs.CallReaders.{view_at, view_call_at}
pub use Rattle.nit_script.specs.Field.{KeepsBytes, field_spelling}
pub use Rattle.nit_script.specs.FieldReaders.{Nibbles, at_both, at_ended, at_kind, at_made}
pub use Rattle.nit_script.specs.FieldReaders.{at_spaced, at_tested, byte_at, colour_at}
pub use Rattle.nit_script.specs.FieldReaders.{colour_field, first_of, hex_value, int_at, int_field}
pub use Rattle.nit_script.specs.FieldReaders.{is_number, nat_at, nat_field, negative, nibble_at}
pub use Rattle.nit_script.specs.FieldReaders.{nibbles_at, nothing_at, signed_at, text_at}
pub use Rattle.nit_script.specs.FieldReaders.{text_field, value_of_nibbles, word_at, ◌>>=◌}
pub use Rattle.nit_script.specs.Grammar.{Begins, BeginsWith, HasNoReading, HasOneReading}
pub use Rattle.nit_script.specs.Grammar.{IsFirstBad, IsFirstBadClient, IsFirstBadInput}
pub use Rattle.nit_script.specs.Grammar.{IsScriptAnswer, IsTooLong, IsTooLongClient, IsTooLongInput}
pub use Rattle.nit_script.specs.Grammar.{Reads, ReadsClient, ReadsInput, UnlessMemory, most_lines}
pub use Rattle.nit_script.specs.Grammar.{spelled}
pub use Rattle.nit_script.specs.InputReaders.{code_field, device_at, input_at, input_front_at}
pub use Rattle.nit_script.specs.InputReaders.{input_phase_at, is_code, is_pointer_place, is_wheel}
pub use Rattle.nit_script.specs.InputReaders.{motion_at, pointer_field, press_at, release_at}
pub use Rattle.nit_script.specs.InputReaders.{shot_at, wheel_at, wheel_field}
pub use Rattle.nit_script.specs.LineReaders.{check_at, fill_at, line_at, line_front_at, phase_at}
pub use Rattle.nit_script.specs.LineReaders.{stroke_at}
pub use Rattle.nit_script.specs.Phases.{phases_by}
pub use Rattle.nit_script.specs.Spelling.{FitsCall, FitsColour, FitsDevice, FitsInputLine, FitsInt}
pub use Rattle.nit_script.specs.Spelling.{FitsLine, FitsNat, FitsPointerPlace, FitsStroke, FitsText}
pub use Rattle.nit_script.specs.Spelling.{call_spelling, colour, device_spelling, hex, hex_digits}
pub use Rattle.nit_script.specs.Spelling.{input_spelling, int, line_spelling, nat, stroke_spelling}
pub use Rattle.nit_script.specs.Spelling.{text}
