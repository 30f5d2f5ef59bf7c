-- The words of the library and of the crates below that are used here, and the crate's plain types.
pub use Rattle.nit_rect.specs.Limits.{least_units, most_run_units, most_side, most_slots}
pub use Rattle.nit_rect.specs.Limits.{most_units, most_words}
pub use Rattle.nit_slots.specs.declared.need.Need.{Need}
pub use Rattle.std.specs.List.{list_any, range_with_len}
pub use Rattle.std.specs.List.Sorted.{IsStrictlyIncreasing}
