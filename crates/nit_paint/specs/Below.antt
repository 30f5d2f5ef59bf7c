-- The words of the library and of the crates below that are used here, and the crate's plain types.
pub use Rattle.nit_rect.specs.Intersection.{HasPixels}
pub use Rattle.nit_rect.specs.Limits.{most_height, most_side, most_width}
pub use Rattle.nit_rect.specs.Rectangle.{IsPlace, Rectangle, covers, rectangle}
pub use Rattle.nit_rect.specs.Strips.{IsScreenRectangle}
pub use Rattle.nit_rect.specs.declared.point.Point.{Point}
pub use Rattle.nit_stack.specs.SourceAnswers.{word_count}
pub use Rattle.nit_stack.specs.Sources.{Bare, Black, PixelSource, Word, among, black_or_word}
pub use Rattle.nit_stack.specs.Sources.{buffer_place, index_at, owner_in, pixel, point, shown_index}
pub use Rattle.nit_stack.specs.Sources.{source}
pub use Rattle.nit_stack.specs.Stack.{IsOnScreen, IsScreenSize, IsSlotView, IsStack, SlotView}
pub use Rattle.nit_stack.specs.Stack.{StackModel, has_slot, is_slot, size_of, slot_view_in}
pub use Rattle.nit_stack.specs.Stack.{view_ref}
pub use Rattle.nit_stack.specs.ViewNames.{views_of}
pub use Rattle.nit_stack.specs.declared.view.Piece.{Piece}
pub use Rattle.nit_stack.specs.declared.view.View.{View}
pub use Rattle.nit_stack.specs.declared.view.ViewRef.{ViewRef}
pub use Rattle.nit_word.specs.Channels.{bare_word}
pub use Rattle.nit_word.specs.Inks.{IsWord}
pub use Rattle.nit_word.specs.Sight.{IsLoaded, IsLoadedRow, Sight, seen}
pub use Rattle.nit_word.specs.Sights.{loads_in_row, no_sight}
pub use Rattle.std.specs.List.{enumerate_from}
pub use Rattle.std.specs.Option.{option_map}
pub use Rattle.std.specs.Prelude.{IsTrue, slice_index, ℤ}
