-- What lemmas use: the words of clauses, the library's lemmas, and those of the crates below.
pub use Rattle.nit_config.specs.Terms.{AllByRecursion, AllZip, ConfigError, Configuration, Data}
pub use Rattle.nit_config.specs.Terms.{Err, HasNoTable, HasRefusedTable, HoldsClient, HoldsTable}
pub use Rattle.nit_config.specs.Terms.{IfOk, IsConfigAnswer, IsConfiguration, IsConfigurationOf}
pub use Rattle.nit_config.specs.Terms.{IsMember, IsUtf8, KeyRow, MeetsRefusal, Member, Members}
pub use Rattle.nit_config.specs.Terms.{IsRunConfiguration, IsRunMember}
pub use Rattle.nit_config.specs.Terms.{NoMemory, None, Option, ReadsTable, Some, Syntax, TableKey}
pub use Rattle.nit_config.specs.Terms.{UnlessMemory, Value, as_integer, as_str, as_table}
pub use Rattle.nit_config.specs.Terms.{boolean_at, bytes_eq, client_rows, client_tables}
pub use Rattle.nit_config.specs.Terms.{elements_of, first_refusal, first_that_holds, has_bad_focus}
pub use Rattle.nit_config.specs.Terms.{has_bad_label, has_bad_script, has_bad_value, has_fault}
pub use Rattle.nit_config.specs.Terms.{has_label_twice, input_table, int_lt, integer, integer_at}
pub use Rattle.nit_config.specs.Terms.{is_file_name, is_known_key, is_label, is_lacking}
pub use Rattle.nit_config.specs.Terms.{is_of_other_kind, is_outside, is_utf8, items_view, keys_of}
pub use Rattle.nit_config.specs.Terms.{label_of_table, list_all, list_any, list_of, map, members_of}
pub use Rattle.nit_config.specs.Terms.{members_view, option_and_then, parse_document, place_rows}
pub use Rattle.nit_config.specs.Terms.{refusals, row_of, rows_of, screen_table, stands_twice}
pub use Rattle.nit_config.specs.Terms.{still_configuration, string, string_at, table_view, view}
pub use Rattle.std.proofs.Common.{All, AllPairs, Bool, List, Ok, Result, [], ap, arith, codes}
pub use Rattle.std.proofs.Common.{false, inl, inr, length, nat_le, nat_lt, negsuc, pos, refl}
pub use Rattle.std.proofs.Common.{slice_index, suc, sym, take, true, ◌∙◌}
pub use Rattle.std.proofs.lemmas.Bool.{and_parts, cases_Bool, false≢true, not-false, or_parts}
pub use Rattle.std.proofs.lemmas.Bool.Decides.{nat_tests}
pub use Rattle.std.proofs.lemmas.List.{length-map, map_more, take_rest}
pub use Rattle.std.proofs.lemmas.List.Folds.{list_any_at}
pub use Rattle.std.proofs.lemmas.List.Elements.{All-cons, All-nil, All-weaker}
pub use Rattle.std.proofs.lemmas.List.Kept.{AllPairs-cons}
pub use Rattle.std.proofs.lemmas.Option.{same_Some}
pub use Rattle.std.proofs.lemmas.Slice.Eq.{bytes_eq-Decides}
pub use Rattle.std.proofs.lemmas.Str.{IsUtf8-from_ascii, IsUtf8-from_is_utf8, is_utf8-from_IsUtf8}
pub use Rattle.toml.proofs.Views.{table_get}
