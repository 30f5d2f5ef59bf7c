-- The words of the library and of the crates below that are used here, and the crate's plain types.
pub use Rattle.nit_config.specs.Configuration.{Configuration, bar_rows, donation_of, member}
pub use Rattle.nit_config.specs.Configuration.{still_configuration}
pub use Rattle.nit_config.specs.declared.config.Member.{Member}
pub use Rattle.nit_events.specs.Input.{InputState, Routing, deliveries_of, first_input, forget}
pub use Rattle.nit_events.specs.Input.{is_button, is_held, kill_key, pointer_after, routed_as}
pub use Rattle.nit_events.specs.Input.{routing, to, xray_key}
pub use Rattle.nit_events.specs.Ranges.{most_waiting}
pub use Rattle.nit_events.specs.declared.call.Call.{Call}
pub use Rattle.nit_events.specs.declared.call.Call.TheVariants.{Above, Back, Buffer, Close, Destroy}
pub use Rattle.nit_events.specs.declared.call.Call.TheVariants.{Front, Offset, Place, Refresh, Take}
pub use Rattle.nit_events.specs.declared.call.Call.TheVariants.{Title, Upgrade, View}
pub use Rattle.nit_events.specs.declared.call.Reply.{Reply}
pub use Rattle.nit_events.specs.declared.device.Device.{Device}
pub use Rattle.nit_events.specs.declared.device.Mode.{Mode}
pub use Rattle.nit_events.specs.declared.device.Mode.TheVariants.{Flat, Kill, Xray}
pub use Rattle.nit_events.specs.declared.entry.Entry.{Entry}
pub use Rattle.nit_events.specs.declared.event.Delivery.{Delivery}
pub use Rattle.nit_events.specs.declared.event.Event.{Event}
pub use Rattle.nit_events.specs.declared.event.Item.{Item}
pub use Rattle.nit_events.specs.declared.event.Routed.{Routed}
pub use Rattle.nit_events.specs.declared.event.Status.{Status}
pub use Rattle.nit_glyph.specs.Texts.{is_title}
pub use Rattle.nit_rect.specs.Limits.{most_side}
pub use Rattle.nit_rect.specs.Rectangle.{covers, is_place, is_rectangle, rectangle}
pub use Rattle.nit_rect.specs.declared.point.Point.{Point}
pub use Rattle.nit_slots.specs.Account.{buffer_left, buffer_need, most_views, room, view_left}
pub use Rattle.nit_slots.specs.Account.{view_need, view_slots}
pub use Rattle.nit_stack.specs.LabelPlaces.{is_view}
pub use Rattle.nit_stack.specs.Orders.{changed, moved, put_above, put_again, put_back, put_front}
pub use Rattle.nit_stack.specs.Orders.{without}
pub use Rattle.nit_stack.specs.Sources.{Bare, PixelSource, Size, Word, in_bar, owner, point, source}
pub use Rattle.std.specs.List.{list_any}
pub use Rattle.std.specs.List.Sorted.{IsNonDecreasing}
pub use Rattle.std.specs.Prelude.{All, IfSome, List, codes, not, option_map, ℕ}
