-- What answers use: all that lemmas use, and this crate's lemmas.
pub use Rattle.nit_focus.proofs.Basics.{All-same, FocusModel, IsForgottenIfKilled, IsItem}
pub use Rattle.nit_focus.proofs.Basics.{IsWithinReach, deliveries_of, filter-from_retain, lit<}
pub use Rattle.nit_focus.proofs.Basics.{most_sessions, outcome, routing_at}
pub use Rattle.nit_focus.proofs.Codes.{held_less, held_more, held_none, held_room}
pub use Rattle.nit_focus.proofs.Steps.{IsRouted, routed}
