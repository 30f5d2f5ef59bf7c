-- The words of the library and of the crates below that are used here, and the crate's plain types.
pub use Rattle.nit_damage.specs.declared.cutting.Job.{Job}
pub use Rattle.nit_damage.specs.declared.rest.Edges.{Edges}
pub use Rattle.nit_rect.specs.Intersection.{CoversBoth, HasPixels, IsApart, LiesIn}
pub use Rattle.nit_rect.specs.Limits.{most_height, most_slots, most_width}
pub use Rattle.nit_rect.specs.Rectangle.{Rectangle, covers, rectangle, spans}
pub use Rattle.nit_rect.specs.Strips.{IsDivided, IsScreenRectangle, times, times_among}
pub use Rattle.nit_rect.specs.declared.point.Point.{Point}
pub use Rattle.nit_rect.specs.declared.strips.Strips.{Strips}
pub use Rattle.nit_stack.specs.Sources.{in_bar, owner_in, point}
pub use Rattle.nit_stack.specs.Stack.{IsOnScreen, IsScreenSize, IsStack, NoPair, SlotView}
pub use Rattle.nit_stack.specs.Stack.{StackModel, has_slot, is_slot, place_of, same_slot}
pub use Rattle.nit_stack.specs.Stack.{seat_owner, slot_view_in, view_ref}
pub use Rattle.nit_stack.specs.declared.view.Piece.{Piece}
pub use Rattle.nit_stack.specs.declared.view.ViewRef.{ViewRef}
pub use Rattle.std.specs.List.{list_any, position_or_len}
pub use Rattle.std.specs.Option.{option_map, option_map_or}
pub use Rattle.std.specs.Prelude.{IfSome, IsTrue, MatchOption, slice_get}
