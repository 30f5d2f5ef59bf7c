-- The words that clauses use: those that come from outside, and those of this crate.
pub use Rattle.nit_events.specs.Below.{Delivery, Device, Event, Motion, OnFalse, OnTrue, Press}
pub use Rattle.nit_events.specs.Below.{Release, list_all, nat_lt}
pub use Rattle.nit_events.specs.Input.{InputState, delivery, first_input, pointer_after, routing}
pub use Rattle.nit_events.specs.Ranges.{most_waiting}
pub use Rattle.nit_events.specs.Text.{HasZerosBehind, is_printable, is_text}
