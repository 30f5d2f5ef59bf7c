-- What answers use: all that lemmas use, and this crate's lemmas.
pub use Rattle.nit_events.proofs.Basics.{sym, ◌∙◌}
pub use Rattle.nit_events.proofs.TextBytes.{zeros_behind}
