-- The words that clauses use: those that come from outside, and those of this crate.
pub use Rattle.nit_focus.specs.Below.{All, AllByRecursion, Delivery, Device, Event, Flat, IfSome}
pub use Rattle.nit_focus.specs.Below.{InputState, IsCode, IsDevice, IsOnScreen, Item, Kill, Mode}
pub use Rattle.nit_focus.specs.Below.{Routing, Xray, deliveries_of, eqb, list_any, most_height}
pub use Rattle.nit_focus.specs.Below.{most_sessions, most_width, nat_eq_equiv, pointer_after}
pub use Rattle.nit_focus.specs.Below.{routed_as, to}
pub use Rattle.nit_focus.specs.Focus.{AllOfInput, FocusModel, IsFocus, clicks_on_list, first_focus}
pub use Rattle.nit_focus.specs.Focus.{pointer, routing_at, with_pointer}
pub use Rattle.nit_focus.specs.Held.{AreHeldCodes}
pub use Rattle.nit_focus.specs.Outcome.{outcome}
pub use Rattle.nit_focus.specs.Reach.{HasForgotten, IsForgottenIfKilled, IsItem, IsWithinReach}
