-- The words that clauses use: those that come from outside, and those of this crate.
pub use Rattle.nit_paint.specs.Below.{Bare, Black, HasPixels, IsLoaded, IsLoadedRow, IsOnScreen}
pub use Rattle.nit_paint.specs.Below.{IsScreenSize, IsSlotView, IsStack, IsTrue, IsWord, Piece}
pub use Rattle.nit_paint.specs.Below.{PixelSource, Point, Rectangle, Sight, SlotView, StackModel}
pub use Rattle.nit_paint.specs.Below.{View, ViewRef, Word, among, black_or_word, buffer_place}
pub use Rattle.nit_paint.specs.Below.{covers, enumerate_from, has_slot, index_at, is_slot}
pub use Rattle.nit_paint.specs.Below.{loads_in_row, no_sight}
pub use Rattle.nit_paint.specs.Below.{most_side, option_map, owner_in, pixel, point, rectangle}
pub use Rattle.nit_paint.specs.Below.{seen, shown_index, size_of, slice_index, slot_view_in}
pub use Rattle.nit_paint.specs.Below.{view_ref, ℤ}
pub use Rattle.nit_paint.specs.FrameCopy.{AreSet}
pub use Rattle.nit_paint.specs.Pieces.{HoldBuffers, IsPiece, has_pixel, source_of_number}
pub use Rattle.nit_paint.specs.Ranges.{least_place, most_buffer, most_place}
pub use Rattle.nit_paint.specs.Repaint.{IsAmongLoads, IsWordOfSource, Repainted, is_word_of}
pub use Rattle.nit_paint.specs.Repaint.{loads_at, loads_of, times_shown}
pub use Rattle.nit_paint.specs.Runs.{ShowsWholeRows, in_rows, in_run, index_from, long}
pub use Rattle.nit_paint.specs.Runs.{own_word, reached, row_at, row_source}
pub use Rattle.nit_paint.specs.declared.block.Block.{Block}
pub use Rattle.nit_paint.specs.declared.reach.Reach.{Reach}
