-- The words of the library and of the crates below that are used here, and the crate's plain types.
pub use Rattle.nit_events.specs.Input.{is_same}
pub use Rattle.nit_events.specs.declared.device.Mode.{Mode}
pub use Rattle.nit_events.specs.declared.device.Mode.TheVariants.{Flat, Kill, Xray}
pub use Rattle.nit_glyph.specs.Lettering.{IsLettering, most_picture_height, most_picture_width}
pub use Rattle.nit_glyph.specs.Lettering.{picture_height, picture_width, plain}
pub use Rattle.nit_glyph.specs.Pictures.{text_dot}
pub use Rattle.nit_glyph.specs.Texts.{bar_text_of, label_text_of}
pub use Rattle.nit_overlay.specs.declared.area.Area.{Area}
pub use Rattle.nit_glyph.specs.declared.lettering.Lettering.{Lettering}
pub use Rattle.nit_overlay.specs.declared.look.LetteredLook.{LetteredLook}
pub use Rattle.nit_overlay.specs.declared.look.Look.{Look}
pub use Rattle.nit_overlay.specs.declared.owner.Owner.{Owner}
pub use Rattle.nit_overlay.specs.declared.paint.Rule.{Rule}
pub use Rattle.nit_overlay.specs.declared.paint.Rule.TheVariants.{Dim, Fill, Raw, Text, Tint}
pub use Rattle.nit_overlay.specs.declared.paint.Tag.{Tag}
pub use Rattle.nit_overlay.specs.declared.row_part.RowPart.{RowPart}
pub use Rattle.nit_overlay.specs.declared.span.Span.{Span}
pub use Rattle.nit_overlay.specs.declared.stripe.Stripe.{Stripe}
pub use Rattle.nit_rect.specs.Limits.{most_edge, most_height, most_length, most_width}
pub use Rattle.nit_rect.specs.Rectangle.{IsPlace, Rectangle, covers, rectangle, spans}
pub use Rattle.nit_rect.specs.declared.point.Point.{Point}
pub use Rattle.nit_stack.specs.LabelPlaces.{label_place}
pub use Rattle.nit_stack.specs.Sources.{in_bar, owner, pixel, point}
pub use Rattle.nit_stack.specs.Stack.{IsSlotView, IsStack, NoPair, SlotView, has_slot, is_slot}
pub use Rattle.nit_stack.specs.Stack.{same_slot, seat_owner, slot_view_in, view_ref}
pub use Rattle.nit_stack.specs.ViewNames.{views_of}
pub use Rattle.nit_stack.specs.declared.view.View.{View}
pub use Rattle.nit_stack.specs.declared.view.ViewRef.{ViewRef}
pub use Rattle.nit_word.specs.Channels.{bare_word, blue, dim, green, red, tint}
pub use Rattle.nit_word.specs.Inks.{IsWord}
pub use Rattle.std.specs.List.{between, range_with_len}
pub use Rattle.std.specs.Option.{is_some, option_map}
pub use Rattle.std.specs.Ordering.{int_eq}
pub use Rattle.std.specs.Prelude.{codes, max, nat_lt, slice_get}
