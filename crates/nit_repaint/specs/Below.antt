-- The words of the library and of the crates below that are used here, and the crate's plain types.
pub use Rattle.nit_damage.specs.Cutter.{CutterModel, FitsStack, pieces_left, to_come}
pub use Rattle.nit_damage.specs.Damage.{covered, is_behind, is_of_moved, is_owned, once}
pub use Rattle.nit_damage.specs.Damage.{slot_view_covers}
pub use Rattle.nit_overlay.specs.Frame.{frame, shown}
pub use Rattle.nit_overlay.specs.Look.{IsLook, scenery}
pub use Rattle.nit_overlay.specs.declared.look.LetteredLook.{LetteredLook}
pub use Rattle.nit_paint.specs.FrameCopy.{AreSet}
pub use Rattle.nit_paint.specs.Pieces.{HoldBuffers, has_pixel, source_of_number}
pub use Rattle.nit_paint.specs.Repaint.{Repainted}
pub use Rattle.nit_rect.specs.Intersection.{CoversBoth}
pub use Rattle.nit_rect.specs.Limits.{most_length, most_side}
pub use Rattle.nit_rect.specs.Rectangle.{IsPlace, Rectangle, covers, rectangle, spans}
pub use Rattle.nit_rect.specs.Strips.{times}
pub use Rattle.nit_rect.specs.declared.point.Point.{Point}
pub use Rattle.nit_repaint.specs.declared.painter.Painter.{Painter}
pub use Rattle.nit_stack.specs.Orders.{changed, moved, put_above, put_again, without}
pub use Rattle.nit_stack.specs.Sources.{PixelSource, Size, Word, among, black_or_word, buffer_place}
pub use Rattle.nit_stack.specs.Sources.{in_bar, index_at, owner_in, pixel, point, shown_index}
pub use Rattle.nit_stack.specs.Sources.{source, source_under}
pub use Rattle.nit_stack.specs.Stack.{IsOnScreen, IsScreenSize, IsStack, NoPair, SlotView}
pub use Rattle.nit_stack.specs.Stack.{StackModel, is_of_session, is_slot, moved_above, on_view}
pub use Rattle.nit_stack.specs.Stack.{place_of, put_own_back, put_own_front, same_slot, size_of}
pub use Rattle.nit_stack.specs.Stack.{slot_view_in, slot_view_layer, with_offset, with_rect}
pub use Rattle.nit_stack.specs.ViewNames.{views_of}
pub use Rattle.nit_stack.specs.declared.view.View.{View}
pub use Rattle.nit_stack.specs.declared.view.ViewRef.{ViewRef}
pub use Rattle.nit_word.specs.Inks.{IsWord}
pub use Rattle.nit_word.specs.Sight.{Sight, seen}
pub use Rattle.std.specs.List.{list_any, position_or_len}
pub use Rattle.std.specs.Option.{option_map_or}
pub use Rattle.std.specs.Prelude.{Bool, List, nat_lt, slice_index, ℕ}
