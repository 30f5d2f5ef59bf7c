-- What lemmas use: the words of clauses, the library's lemmas, and those of the crates below.
pub use Rattle.arrayvec.proofs.ArrayVecLemmas.{filter-from_retain}
pub use Rattle.nit_events.proofs.ForCallers.{either}
pub use Rattle.nit_focus.specs.Terms.{All, AllByRecursion, AllOfInput, AreHeldCodes, Delivery}
pub use Rattle.nit_focus.specs.Terms.{Device, Event, Flat, FocusModel, HasForgotten, IfSome}
pub use Rattle.nit_focus.specs.Terms.{InputState, IsDevice, IsFocus, IsForgottenIfKilled, IsItem}
pub use Rattle.nit_focus.specs.Terms.{IsWithinReach, Item, Kill, Mode, Routing, Xray}
pub use Rattle.nit_focus.specs.Terms.{clicks_on_list, deliveries_of, eqb, list_any, most_sessions}
pub use Rattle.nit_focus.specs.Terms.{nat_eq_equiv, outcome, pointer_after, routing_at}
pub use Rattle.nit_focus.specs.Terms.{with_pointer}
pub use Rattle.std.proofs.Common.{lit<}
pub use Rattle.std.proofs.lemmas.Bool.{eqb-true}
pub use Rattle.std.proofs.lemmas.Bool.Decides.{nat_tests}
pub use Rattle.std.proofs.lemmas.List.{length_push}
pub use Rattle.std.proofs.lemmas.List.Elements.{All-append, All-cons, All-contains, All-filter}
pub use Rattle.std.proofs.lemmas.List.Elements.{All-from_recursion, All-nil, All-push, All-same}
pub use Rattle.std.proofs.lemmas.List.Elements.{All-weaker, recursion_from_All}
pub use Rattle.std.proofs.lemmas.Map.Keys.{IsDistinct-cons, IsDistinct-head, IsDistinct-push}
pub use Rattle.std.proofs.lemmas.Map.Keys.{IsDistinct-tail}
pub use Rattle.std.proofs.lemmas.Map.Steps.{length-le_from_distinct_below}
pub use Rattle.std.proofs.lemmas.Map.Views.{Contains-from_any}
