-- The words of the library and of the crates below that are used here, and the crate's plain types.
pub use Rattle.nit_labels.specs.Places.{IsLeastPlace}
pub use Rattle.nit_place.specs.declared.part.ScreenPart.{ScreenPart}
pub use Rattle.nit_place.specs.declared.search.Row.{Row}
pub use Rattle.nit_place.specs.declared.search.Row.TheVariants.{Free, Full}
pub use Rattle.nit_rect.specs.Intersection.{IsApart}
pub use Rattle.nit_rect.specs.Limits.{most_edge}
pub use Rattle.nit_rect.specs.Rectangle.{Rectangle, covers, rectangle}
pub use Rattle.nit_rect.specs.declared.point.Point.{Point}
pub use Rattle.nit_stack.specs.LabelPlaces.{fits, is_owner, is_view, label_place, most_tag, owns}
pub use Rattle.nit_stack.specs.Sources.{owner, point}
pub use Rattle.nit_stack.specs.Stack.{IsStack, NoPair, SlotView, fresh, fresh_in, has_slot, is_slot}
pub use Rattle.nit_stack.specs.Stack.{same_name, slot_view_in, view_ref}
pub use Rattle.nit_stack.specs.ViewNames.{views_of}
pub use Rattle.nit_stack.specs.declared.view.View.{View}
pub use Rattle.nit_stack.specs.declared.view.ViewRef.{ViewRef}
pub use Rattle.std.specs.List.{AllPairs, Any, before_first, flat_map, list_all, position_or_len}
pub use Rattle.std.specs.List.{range_with_len}
pub use Rattle.std.specs.Option.{option_map, option_or}
pub use Rattle.std.specs.Prelude.{IfSome, List, int_le, int_lt, max, min, negsuc, pos, slice_get}
pub use Rattle.std.specs.Prelude.{slice_index_or, ℕ, ℤ}
