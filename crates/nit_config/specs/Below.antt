-- The words of the library and of the crates below that are used here, and the crate's plain types.
pub use Rattle.nit_config.specs.declared.error.ConfigError.{ConfigError}
pub use Rattle.nit_config.specs.declared.error.ConfigError.TheVariants.{Kind, Label, Missing}
pub use Rattle.nit_config.specs.declared.error.ConfigError.TheVariants.{NoMemory, Range, Syntax}
pub use Rattle.nit_config.specs.declared.error.ConfigError.TheVariants.{TooMany, Twice, Unknown}
pub use Rattle.nit_config.specs.declared.keys.TableKey.{TableKey}
pub use Rattle.nit_config.specs.declared.keys.Kind.TheVariants.{Boolean, Integer, Table, Tables}
pub use Rattle.nit_config.specs.declared.keys.Kind.TheVariants.{Text}
pub use Rattle.nit_config.specs.declared.keys.TablePlace.{TablePlace}
pub use Rattle.nit_config.specs.declared.keys.TablePlace.TheVariants.{Client, Input, Screen, Top}
pub use Rattle.nit_config.specs.declared.refusals.KeyFault.{KeyFault}
pub use Rattle.nit_config.specs.declared.refusals.KeyFault.TheVariants.{Lacking, OtherKind}
pub use Rattle.nit_glyph.specs.Lettering.{IsLettering, picture_height, plain}
pub use Rattle.nit_glyph.specs.Texts.{is_label}
pub use Rattle.nit_glyph.specs.declared.lettering.Lettering.{Lettering}
pub use Rattle.nit_rect.specs.Limits.{first_printable, last_printable, least_units, most_height}
pub use Rattle.nit_rect.specs.Limits.{most_run_height, most_run_sessions, most_run_units}
pub use Rattle.nit_rect.specs.Limits.{most_run_width, most_sessions, most_units, most_width}
pub use Rattle.std.specs.BTreeMap.{keys}
pub use Rattle.std.specs.List.{AllByRecursion, AllZip, list_all, list_any}
pub use Rattle.std.specs.Map.{keys_of}
pub use Rattle.std.specs.Option.{option_map_or}
pub use Rattle.std.specs.Prelude.{Err, IfOk, IsUtf8, None, Option, Some, bytes_eq, int_lt, map}
pub use Rattle.std.specs.Prelude.{option_and_then}
pub use Rattle.std.specs.Str.{is_utf8}
pub use Rattle.toml.specs.Data.{Data, Items, Members, array, as_array, as_bool, as_integer, as_str}
pub use Rattle.toml.specs.Data.{as_table, boolean, datetime, float, get_member, integer, item}
pub use Rattle.toml.specs.Data.{member, no_items, no_members, string, table}
pub use Rattle.toml.specs.Parse.{parse_document}
pub use Rattle.toml.specs.View.{items_view, members_view, table_view, view}
pub use Rattle.toml.specs.declared.value.Value.{Value}
