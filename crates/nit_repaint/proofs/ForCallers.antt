-- What the crates above cite of this crate's proofs.
pub use Rattle.nit_repaint.proofs.WantedLemmas.{all_of_session, nothing_spanned, on_screen}
pub use Rattle.nit_repaint.proofs.WantedLemmas.{part_of_session, seat_here}
pub use Rattle.nit_repaint.proofs.ViewChangeLemmas.{find_moved, gone_change, gone_painted}
pub use Rattle.nit_repaint.proofs.ViewChangeLemmas.{gone_room, none_left, place_changed}
pub use Rattle.nit_repaint.proofs.ViewChangeLemmas.{without_changed, without_moved, without_none}
pub use Rattle.nit_repaint.proofs.ViewRemovalLemmas.{all_painted, all_taken, goes, goes_painted}
pub use Rattle.nit_repaint.proofs.ViewRemovalLemmas.{painted_more, stays}
pub use Rattle.nit_repaint.proofs.ViewRemovalLemmas.{stays_clean, taken_held, taken_more}
pub use Rattle.nit_repaint.proofs.ViewRemovalLemmas.{taken_none}
