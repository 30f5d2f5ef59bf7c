-- What lemmas use: the words of clauses, the library's lemmas, and those of the crates below.
pub use Rattle.nit_script.specs.Terms.{Above, AllByRecursion, AllDigits, Back, Bad, Begins}
pub use Rattle.nit_script.specs.Terms.{BeginsWith, Buffer, Call, Check, Close, Destroy, Device}
pub use Rattle.nit_script.specs.Terms.{Fill, FitsCall, FitsColour, FitsDevice, FitsInputLine}
pub use Rattle.nit_script.specs.Terms.{FitsInt, FitsLine, FitsNat, FitsPointerPlace, FitsStroke}
pub use Rattle.nit_script.specs.Terms.{FitsText, Front, Gives, Global, HasNoReading, HasOneReading}
pub use Rattle.nit_script.specs.Terms.{IfOk, InputLine, IsCode, IsFirstBad, IsOkAnd, IsScriptAnswer}
pub use Rattle.nit_script.specs.Terms.{IsTooLong, IsWheel, KeepsBytes, Line, MatchOption, Motion}
pub use Rattle.nit_script.specs.Terms.{Nibbles, NoMemory, Offset, Place, Press, Reads, Refresh}
pub use Rattle.nit_script.specs.Terms.{Release, ScriptError, Stroke, Take, Title, TooLong}
pub use Rattle.nit_script.specs.Terms.{UnlessMemory, Upgrade, Vec, View, Wheel, at_both, at_ended}
pub use Rattle.nit_script.specs.Terms.{at_kind, at_made, at_spaced, at_tested, byte_at}
pub use Rattle.nit_script.specs.Terms.{call_spelling, code_field, codes, colour, colour_field}
pub use Rattle.nit_script.specs.Terms.{decimal, device_spelling, digits_value, field_spelling}
pub use Rattle.nit_script.specs.Terms.{first_of, flat_map, hex, input_phase_at, input_spelling, int}
pub use Rattle.nit_script.specs.Terms.{int_field, is_ascii_digit, is_code, is_number}
pub use Rattle.nit_script.specs.Terms.{is_pointer_place, is_printable, is_text, is_wheel}
pub use Rattle.nit_script.specs.Terms.{line_spelling, list_all, nat, nat_at, nat_field, negative}
pub use Rattle.nit_script.specs.Terms.{nibble_at, nibbles_at, not, nothing_at, phase_at}
pub use Rattle.nit_script.specs.Terms.{pointer_field, prefix_len, shot_at, signed_at}
pub use Rattle.nit_script.specs.Terms.{signed_decimal, spelled, starts_with, stroke_spelling, text}
pub use Rattle.nit_script.specs.Terms.{text_field, value_of_nibbles, wheel_field, word_at, ◌>>=◌}
pub use Rattle.std.proofs.Common.{[], arith, sym, ◌∙◌}
pub use Rattle.std.proofs.Math.Seq.{take-append_seam, take-length}
pub use Rattle.std.proofs.lemmas.Bool.{and_parts, eqb-true, le-leb, leb-true, ne_eqb, not-true}
pub use Rattle.std.proofs.lemmas.Bool.{true≢false}
pub use Rattle.std.proofs.lemmas.Bool.Decides.{nat_tests}
pub use Rattle.std.proofs.lemmas.Fmt.{decimal-digits_value, decimal_digit, decimal_is_IsNumeral}
pub use Rattle.std.proofs.lemmas.Fmt.{first_decimal, length-decimal-le}
pub use Rattle.std.proofs.lemmas.Int.{ints}
pub use Rattle.std.proofs.lemmas.Int.Digits.{digits_value_more}
pub use Rattle.std.proofs.lemmas.List.{append-nil, drop_at, get_or_append_left, length-append}
pub use Rattle.std.proofs.lemmas.List.{length_push, nil_from_length, take-append-drop, take_at}
pub use Rattle.std.proofs.lemmas.List.Concat.{flat_map-append}
pub use Rattle.std.proofs.lemmas.List.Folds.{length-prefix_len}
pub use Rattle.std.proofs.lemmas.List.Sums.{prefix_len-le-length, take_while-cons}
pub use Rattle.std.proofs.lemmas.Option.{cond_some, some_pair_parts}
pub use Rattle.std.proofs.lemmas.Slice.Eq.{bytes_eq-Decides}
pub use Rattle.std.proofs.lemmas.Str.{digit_value_digit}
pub use Rattle.std.proofs.lemmas.Str.Parse.{digit_at, digit_from_value, digits_value-take-le}
pub use Rattle.std.proofs.lemmas.Str.Parse.{digits_value_short, numerals_by_value, tells_digits}
