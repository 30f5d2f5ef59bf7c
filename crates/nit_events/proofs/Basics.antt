-- What lemmas use: the words of clauses, the library's lemmas, and those of the crates below.
pub use Rattle.nit_events.specs.Terms.{Delivery, Device, Event, HasZerosBehind, InputState, Motion}
pub use Rattle.nit_events.specs.Terms.{Press, Release, delivery, first_input, is_text, nat_lt}
pub use Rattle.nit_events.specs.Terms.{pointer_after, routing}
pub use Rattle.std.proofs.Common.{sym, ◌∙◌}
pub use Rattle.std.proofs.Math.Seq.{drop-append_seam, take-append_seam}
pub use Rattle.std.proofs.lemmas.Bool.{and_parts, leb-true}
pub use Rattle.std.proofs.lemmas.List.{drop-replicate}
