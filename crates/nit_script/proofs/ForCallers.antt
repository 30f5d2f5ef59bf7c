-- What other crates cite of scripts: readers of fields, calls and lines, and that each undoes its spelling.
pub use Rattle.nit_script.proofs.CallLaws.{call_again, call_takes}
pub use Rattle.nit_script.proofs.Digits.{stops}
pub use Rattle.nit_script.proofs.Exact.{Exact, IsKind, Takes, anything, both, ended_again}
pub use Rattle.nit_script.proofs.Exact.{ended_takes, first_takes, kind, made_takes, nat_fields}
pub use Rattle.nit_script.proofs.Exact.{nothing, spaced, stops_text, tested, text_fields}
pub use Rattle.nit_script.proofs.CallLaws.{device_again, device_takes, input_reading}
pub use Rattle.nit_script.proofs.CallLaws.{client_reading}
pub use Rattle.nit_script.proofs.Scripts.{IsReader, bad_for, begins_more, fits_push, in_front}
pub use Rattle.nit_script.proofs.Scripts.{no_reading, not_empty, nothing_spelled, one_reading}
pub use Rattle.nit_script.proofs.Scripts.{read_and_bad, read_and_long, reads_begins, same_lines}
pub use Rattle.nit_script.proofs.Scripts.{same_read, taken_begins}
