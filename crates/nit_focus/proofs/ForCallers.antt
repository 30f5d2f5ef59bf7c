-- What other crates cite of a device event: whom the state knows after it.
pub use Rattle.nit_focus.proofs.Steps.{known_after}
