-- The words of the library and of the crates below that are used here, and the crate's plain types.
pub use Rattle.nit_events.specs.Input.{InputState, Routing, deliveries_of, first_input}
pub use Rattle.nit_events.specs.Input.{pointer_after, routed_as, routing, to}
pub use Rattle.nit_events.specs.Ranges.{IsCode, IsDevice, IsEvent}
pub use Rattle.nit_events.specs.declared.device.Device.{Device}
pub use Rattle.nit_events.specs.declared.device.Mode.{Mode}
pub use Rattle.nit_events.specs.declared.device.Mode.TheVariants.{Flat, Kill, Xray}
pub use Rattle.nit_events.specs.declared.event.Delivery.{Delivery}
pub use Rattle.nit_events.specs.declared.event.Event.{Event}
pub use Rattle.nit_events.specs.declared.event.Item.{Item}
pub use Rattle.nit_rect.specs.Limits.{most_height, most_sessions, most_width}
pub use Rattle.nit_rect.specs.Screen.{IsOnScreen}
pub use Rattle.nit_rect.specs.declared.point.Point.{Point}
pub use Rattle.std.specs.Cmp.{nat_eq_equiv}
pub use Rattle.std.specs.List.{All, AllByRecursion, IsDistinct, list_any}
pub use Rattle.std.specs.Prelude.{IfSome, List, eqb, ℕ}
