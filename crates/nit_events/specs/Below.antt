-- The words of the library and of the crates below that are used here, and the crate's plain types.
pub use Rattle.nit_events.specs.declared.device.Device.{Device}
pub use Rattle.nit_events.specs.declared.device.Device.TheVariants.{Motion, Press, Release}
pub use Rattle.nit_events.specs.declared.device.Mode.{Mode}
pub use Rattle.nit_events.specs.declared.device.Mode.TheVariants.{Flat, Kill, Xray}
pub use Rattle.nit_events.specs.declared.event.Delivery.{Delivery}
pub use Rattle.nit_events.specs.declared.event.Event.{Event}
pub use Rattle.nit_events.specs.declared.event.Routed.{Routed}
pub use Rattle.nit_rect.specs.Limits.{first_printable, last_printable}
pub use Rattle.std.specs.Bool.{OnFalse, OnTrue}
pub use Rattle.std.specs.List.{list_all, list_any}
pub use Rattle.std.specs.Prelude.{nat_lt}
