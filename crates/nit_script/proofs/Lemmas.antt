-- What answers use: all that lemmas use, and this crate's lemmas.
pub use Rattle.nit_script.proofs.Basics.{KeepsBytes, [], arith, digits_value, eqb-true}
pub use Rattle.nit_script.proofs.Basics.{field_spelling, flat_map, nil_from_length, some_pair_parts}
pub use Rattle.nit_script.proofs.Basics.{spelled, sym, ◌∙◌}
pub use Rattle.nit_script.proofs.CallLaws.{client_reader, client_reading, input_reader}
pub use Rattle.nit_script.proofs.CallLaws.{input_reading}
pub use Rattle.nit_script.proofs.Digits.{next_value, number_found, number_read}
pub use Rattle.nit_script.proofs.Scripts.{HasRead, bad_and_long, bad_for, first_bad_here}
pub use Rattle.nit_script.proofs.Scripts.{has_read_more, in_front, is_bad, is_long, is_read}
pub use Rattle.nit_script.proofs.Scripts.{not_empty, read_and_bad, read_and_long, read_is, same_bad}
pub use Rattle.nit_script.proofs.Scripts.{same_read}
