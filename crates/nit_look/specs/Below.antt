-- The words of the library and of the crates below that are used here, and the crate's plain types.
pub use Rattle.nit_look.specs.declared.area.Area.{Area}
pub use Rattle.nit_look.specs.declared.edges.Edges.{Edges}
pub use Rattle.nit_look.specs.declared.span.Span.{Span}
pub use Rattle.nit_rect.specs.Limits.{most_height, most_width}
pub use Rattle.nit_rect.specs.Terms.{Rectangle, covers, rectangle}
pub use Rattle.nit_rect.specs.declared.point.Point.{Point}
pub use Rattle.std.specs.List.{list_any}
pub use Rattle.std.specs.Prelude.{All, IsSomeAnd, None, drop, pos, slice_index, take}
