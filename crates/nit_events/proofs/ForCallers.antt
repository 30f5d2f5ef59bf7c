-- What other crates cite of choices and deliveries.
pub use Rattle.nit_events.proofs.Choices.{at_most_one, either}
