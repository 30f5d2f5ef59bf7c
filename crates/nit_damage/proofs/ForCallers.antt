-- What other crates cite of the pixels that a change makes dirty.
pub use Rattle.nit_damage.proofs.Screen.{rows_hold}
pub use Rattle.nit_damage.proofs.Views.{owned_is}
