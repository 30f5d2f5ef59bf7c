-- The words of the library and of the crates below that are used here, and the crate's plain types.
pub use Rattle.nit_rect.specs.Limits.{most_edge}
pub use Rattle.nit_rect.specs.declared.point.Point.{Point}
pub use Rattle.std.specs.Prelude.{pos, slice_index_or}
