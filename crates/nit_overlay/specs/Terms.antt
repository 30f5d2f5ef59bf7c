-- The words that clauses use: those that come from outside, and those of this crate.
pub use Rattle.nit_overlay.specs.Area.{IsArea, IsAreaBy, IsOverlaid, IsRectShown, IsShownIn}
pub use Rattle.nit_overlay.specs.Area.{in_area}
pub use Rattle.nit_overlay.specs.Below.{Area, Flat, IsLettering, IsPlace, IsSlotView, IsStack}
pub use Rattle.nit_overlay.specs.Below.{IsWord, Kill, LetteredLook, Lettering, Look, Mode, NoPair}
pub use Rattle.nit_overlay.specs.Below.{Point, Rectangle, Rule, SlotView, Text}
pub use Rattle.nit_overlay.specs.Below.{View, ViewRef, Xray, bare_word, between, codes, covers}
pub use Rattle.nit_overlay.specs.Below.{has_slot, in_bar, int_eq, is_same, is_slot, is_some, max}
pub use Rattle.nit_overlay.specs.Below.{most_edge, most_length, most_picture_height}
pub use Rattle.nit_overlay.specs.Below.{most_picture_width, most_width}
pub use Rattle.nit_overlay.specs.Below.{nat_lt, option_map, picture_height, plain, text_dot}
pub use Rattle.nit_overlay.specs.Below.{owner, picture_width, pixel, point, range_with_len}
pub use Rattle.nit_overlay.specs.Below.{rectangle, same_slot, seat_owner, slice_get, slot_view_in}
pub use Rattle.nit_overlay.specs.Below.{spans, view_ref, views_of}
pub use Rattle.nit_overlay.specs.Frame.{Scenery, bar_text, bar_word, by_label, by_mode, frame}
pub use Rattle.nit_overlay.specs.Frame.{grey_word, has_dot, ink_of, is_in_picture, is_on_ring}
pub use Rattle.nit_overlay.specs.Frame.{label_place_of, mode_word, owner_word, shown, unowned_word}
pub use Rattle.nit_overlay.specs.Frame.{view_text, view_word, white_word}
pub use Rattle.nit_overlay.specs.FrameRenewal.{IsRenewed}
pub use Rattle.nit_overlay.specs.Look.{IsLook, IsPlaced, draws_labels, pixel_at, plain_look}
pub use Rattle.nit_overlay.specs.Look.{scenery}
pub use Rattle.nit_overlay.specs.Marks.{IsBright, IsMark, IsOfNamed, IsReddish, in_label}
pub use Rattle.nit_overlay.specs.Marks.{is_dot_of_text, is_in_text, is_label_dot}
pub use Rattle.nit_overlay.specs.Owner.{HasOwner, HasSlot, IsClear, IsOwner, StandsIn}
pub use Rattle.nit_overlay.specs.PixelRow.{IsPainted, IsRowPart}
pub use Rattle.nit_overlay.specs.Rule.{IsInTag, IsTagged, word_by}
pub use Rattle.nit_overlay.specs.Span.{has_at_end, moved_of, span_has}
pub use Rattle.nit_overlay.specs.Stretch.{AreColumns, AreOnRow, AreOnScreen, AreRows, AreRowsOf}
pub use Rattle.nit_overlay.specs.Stretch.{HoldsUpTo}
pub use Rattle.nit_overlay.specs.Stripe.{IsRowOfTag, mode_rule, stripe_rule, tag_rule}
pub use Rattle.nit_overlay.specs.ToPaint.{AreScreenWords, IsAreaToPaint, IsAreaToShow, IsBarToShow}
pub use Rattle.nit_overlay.specs.ToPaint.{IsRowToPaint, IsRowToShow, IsRunToPaint}
