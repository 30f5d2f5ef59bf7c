-- The words that clauses use: those that come from outside, and those of this crate.
pub use Rattle.nit_repaint.specs.Below.{AreSet, CoversBoth, CutterModel, FitsStack, HoldBuffers}
pub use Rattle.nit_repaint.specs.Below.{IsOnScreen, IsPlace, IsScreenSize, IsStack, LetteredLook}
pub use Rattle.nit_repaint.specs.Below.{NoPair}
pub use Rattle.nit_repaint.specs.Below.{Painter, PixelSource, Point, Rectangle, Repainted, Sight}
pub use Rattle.nit_repaint.specs.Below.{SlotView, StackModel, View, ViewRef, among, black_or_word}
pub use Rattle.nit_repaint.specs.Below.{buffer_place, changed, covered, covers, frame, has_pixel}
pub use Rattle.nit_repaint.specs.Below.{in_bar, index_at, is_behind, is_of_moved, is_of_session}
pub use Rattle.nit_repaint.specs.Below.{is_owned, is_slot, list_any, most_length, most_side, moved}
pub use Rattle.nit_repaint.specs.Below.{moved_above, on_view, once, option_map_or, owner_in}
pub use Rattle.nit_repaint.specs.Below.{pieces_left, pixel, place_of, point, position_or_len}
pub use Rattle.nit_repaint.specs.Below.{put_above, put_again, put_own_back, put_own_front}
pub use Rattle.nit_repaint.specs.Below.{rectangle, same_slot, scenery, seen, shown_index, size_of}
pub use Rattle.nit_repaint.specs.Below.{slot_view_covers, slot_view_in, slot_view_layer}
pub use Rattle.nit_repaint.specs.Below.{source_of_number, source_under, spans, times, to_come}
pub use Rattle.nit_repaint.specs.Below.{views_of, with_offset, with_rect, without}
pub use Rattle.nit_repaint.specs.Painting.{CanPaint, CanRepaint, IsFrameToShow, IsOnlyCut}
pub use Rattle.nit_repaint.specs.Painting.{IsRepaint, KeepsPainter}
pub use Rattle.nit_repaint.specs.PixelOwners.{is_word_in, owner_passes, source_in}
pub use Rattle.nit_repaint.specs.PixelsToCome.{has_come, is_to_come}
pub use Rattle.nit_repaint.specs.ShownPixels.{shown_at}
pub use Rattle.nit_repaint.specs.ViewChange.{IsViewChange, slot_owns_either}
pub use Rattle.nit_repaint.specs.ViewRemoval.{IsRemovedFrom, uncovered, without_session}
pub use Rattle.nit_repaint.specs.WantedPixels.{is_index_in, is_wanted, wanted, wanted_of_first}
pub use Rattle.nit_repaint.specs.WantedPixels.{wants}
