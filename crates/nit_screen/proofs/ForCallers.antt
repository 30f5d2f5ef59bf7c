-- What the crates above cite of this crate's proofs.
pub use Rattle.nit_screen.proofs.CleanCalls.{unaccepted_state}
pub use Rattle.nit_screen.proofs.FrameLabelLemmas.{labels_shown, labels_stand}
pub use Rattle.nit_screen.proofs.Handles.{delivered_keeps_next, taking_keeps_next}
pub use Rattle.nit_screen.proofs.ScreenLemmas.{clean_seen, clean_words, only_opens, owns_none}
