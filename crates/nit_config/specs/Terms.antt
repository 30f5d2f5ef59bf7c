-- The words that clauses use: those that come from outside, and those of this crate.
pub use Rattle.nit_config.specs.Below.{AllByRecursion, AllZip, ConfigError, Data, Err, IfOk, IsUtf8}
pub use Rattle.nit_config.specs.Below.{TableKey, Kind, Label, Members, Missing, NoMemory, None}
pub use Rattle.nit_config.specs.Below.{IsLettering, Lettering, Option, picture_height, plain}
pub use Rattle.nit_config.specs.Below.{Range, Some, Syntax, TooMany, Twice, Unknown, Value, array}
pub use Rattle.nit_config.specs.Below.{as_integer, as_str, as_table, boolean, bytes_eq, datetime}
pub use Rattle.nit_config.specs.Below.{first_printable, float, get_member, int_lt, integer}
pub use Rattle.nit_config.specs.Below.{is_label, is_utf8, items_view, keys, keys_of, last_printable}
pub use Rattle.nit_config.specs.Below.{list_all, list_any, map, members_view, most_run_height}
pub use Rattle.nit_config.specs.Below.{most_run_units, most_run_width, no_members}
pub use Rattle.nit_config.specs.Below.{option_and_then}
pub use Rattle.nit_config.specs.Below.{parse_document, string, table, table_view, view}
pub use Rattle.nit_config.specs.Configuration.{Configuration, is_file_name, still_configuration}
pub use Rattle.nit_config.specs.ConfigurationRanges.{IsConfiguration, IsMember}
pub use Rattle.nit_config.specs.ConfigurationRanges.{IsMemberWithin, IsRunConfiguration}
pub use Rattle.nit_config.specs.ConfigurationRanges.{IsRunMember}
pub use Rattle.nit_config.specs.ConfigurationText.{HasNoTable, HasRefusedTable, HoldsClient}
pub use Rattle.nit_config.specs.ConfigurationText.{HoldsTable, IsConfigAnswer, IsConfigurationOf}
pub use Rattle.nit_config.specs.ConfigurationText.{IsFaultLine, MeetsRefusal, UnlessMemory}
pub use Rattle.nit_config.specs.ConfigurationText.{line_count}
pub use Rattle.nit_config.specs.Keys.{KeyRow, client_rows, has_other_kind, has_unknown_key}
pub use Rattle.nit_config.specs.Keys.{is_known_key, is_lacking, is_of_kind, is_of_other_kind}
pub use Rattle.nit_config.specs.Keys.{lacks_key, place_rows, row_of, rows_of}
pub use Rattle.nit_config.specs.Ranges.{has_bad_focus, has_bad_label, has_bad_script, has_bad_size}
pub use Rattle.nit_config.specs.Ranges.{has_bad_value, is_outside, label_of_table}
pub use Rattle.nit_config.specs.Refusals.{first_refusal, first_that_holds, has_bad_range, has_fault}
pub use Rattle.nit_config.specs.Refusals.{has_label_twice, is_somewhere, refusals, stands_twice}
pub use Rattle.nit_config.specs.Tree.{ReadsTable, boolean_at, client_tables, elements_at}
pub use Rattle.nit_config.specs.Tree.{elements_of, input_table, integer_at, list_of, members_at}
pub use Rattle.nit_config.specs.Tree.{members_of, screen_table, string_at}
pub use Rattle.nit_config.specs.declared.config.Member.{Member}
