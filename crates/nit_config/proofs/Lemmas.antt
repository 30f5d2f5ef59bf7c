-- What answers use: all that lemmas use, and this crate's lemmas.
pub use Rattle.nit_config.proofs.Basics.{AllZip, HoldsClient, Value, ap, arith, bytes_eq}
pub use Rattle.nit_config.proofs.Basics.{client_rows, codes, false≢true, has_bad_label}
pub use Rattle.nit_config.proofs.Basics.{has_bad_value, has_fault, integer_at, is_file_name}
pub use Rattle.nit_config.proofs.Basics.{is_label, is_lacking, is_of_other_kind, label_of_table}
pub use Rattle.nit_config.proofs.Basics.{map, members_of, place_rows, pos, screen_table}
pub use Rattle.nit_config.proofs.Basics.{stands_twice, sym, table_get, table_view, take, view, ◌∙◌}
pub use Rattle.nit_config.proofs.AcceptedTables.{accepted, answer_configured, at_least_one}
pub use Rattle.nit_config.proofs.AcceptedTables.{configured, file_name_length, file_name_utf8}
pub use Rattle.nit_config.proofs.AcceptedTables.{integer_there, judged, label_is_label}
pub use Rattle.nit_config.proofs.AcceptedTables.{label_length, refused_answers, refused_by}
pub use Rattle.nit_config.proofs.AcceptedTables.{run_configured, script_is_name, still_configured}
pub use Rattle.nit_config.proofs.AcceptedTables.{string_there}
pub use Rattle.nit_config.proofs.AcceptedTables.{wider}
pub use Rattle.nit_config.proofs.Elements.{built_more, labels_of, members_of_values, on_clients}
pub use Rattle.nit_config.proofs.Elements.{on_members, on_rows, twice_compared}
pub use Rattle.nit_config.proofs.OneAnswer.{not_both, one_configuration, one_refusal, read, refused}
