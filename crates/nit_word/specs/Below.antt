-- The words of the library and of the crates below that are used here, and the crate's plain types.
pub use Rattle.std.specs.List.{enumerate_from, list_any}
pub use Rattle.std.specs.Option.{option_map}
pub use Rattle.std.specs.Prelude.{slice_index}
