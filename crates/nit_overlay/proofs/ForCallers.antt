-- What other crates cite of frames.
pub use Rattle.nit_overlay.proofs.FrameLemmas.{frame_fits, get_or-frame, length-frame, same_frame}
pub use Rattle.nit_overlay.proofs.FrameLemmas.{flat_same, flat_shown, renewed}
