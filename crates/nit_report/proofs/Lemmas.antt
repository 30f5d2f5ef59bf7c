-- What answers use: all that lemmas use, and this crate's lemmas.
pub use Rattle.nit_report.proofs.Basics.{AppendsDraws, InputLine, Line, append_assoc, arith}
pub use Rattle.nit_report.proofs.Basics.{backdrop, begins_more, busy, channels, click, client_block}
pub use Rattle.nit_report.proofs.Basics.{client_text, codes, decimal, decimal_digit, decimal_step}
pub use Rattle.nit_report.proofs.Basics.{drop-drop, drop-put_mid, entry_spelling, event_spelling}
pub use Rattle.nit_report.proofs.Basics.{first_phase, flat_map, for_each, generated_member, just}
pub use Rattle.nit_report.proofs.Basics.{length, map-append, map-range_with_len_more, not_empty}
pub use Rattle.nit_report.proofs.Basics.{placed, range_with_len, refl, rules, same_read}
pub use Rattle.nit_report.proofs.Basics.{script_name, second_phase, seed, spelled, sym, taken}
pub use Rattle.nit_report.proofs.Basics.{taken_begins, titled, user_phases, ◌∙◌}
pub use Rattle.nit_report.proofs.DrawnLines.{appends_one, appends_then, client_calls, client_fits}
pub use Rattle.nit_report.proofs.DrawnLines.{client_lines, client_phases, clients_read, each_done}
pub use Rattle.nit_report.proofs.DrawnLines.{each_more, each_none, flat_map_next, user_devices}
pub use Rattle.nit_report.proofs.DrawnLines.{user_fits, user_lines, user_phase_count, user_shots}
pub use Rattle.nit_report.proofs.EntryLaws.{HasRead, bad_is_one, few_are_read, few_entries}
pub use Rattle.nit_report.proofs.EntryLaws.{first_bad, is_bad, is_read, journal_reader}
pub use Rattle.nit_report.proofs.EntryLaws.{journal_reading, read_and_bad, read_is, shorter}
pub use Rattle.nit_report.proofs.GeneratedClients.{few_digits, generated_is_configured, is_title}
pub use Rattle.nit_report.proofs.GeneratedClients.{one_digit, one_digit_more}
