-- The words of the library and of the crates below that are used here, and the crate's plain types.
pub use Rattle.nit_glyph.specs.Lettering.{most_picture_height, most_picture_width}
pub use Rattle.nit_rect.specs.Limits.{most_height, most_length, most_sessions, most_side}
pub use Rattle.nit_rect.specs.Limits.{most_slots, most_width}
pub use Rattle.nit_rect.specs.Rectangle.{IsPlace, Rectangle, covers, rectangle}
pub use Rattle.nit_rect.specs.Screen.{IsOnScreen}
pub use Rattle.nit_rect.specs.declared.point.Point.{Point}
pub use Rattle.nit_stack.specs.declared.view.Source.{Source}
pub use Rattle.nit_stack.specs.declared.view.View.{View}
pub use Rattle.nit_stack.specs.declared.view.ViewRef.{ViewRef}
pub use Rattle.std.specs.List.{AllByRecursion, flat_map, insert, list_all, list_any}
pub use Rattle.std.specs.List.{position_or_len, range_with_len}
pub use Rattle.std.specs.Option.{is_some, option_map_or}
pub use Rattle.std.specs.Prelude.{IfOk, IfSome, None, Some, option_map, slice_get, slice_set}
pub use Rattle.std.specs.Prelude.{vec_capacity, vec_len}
