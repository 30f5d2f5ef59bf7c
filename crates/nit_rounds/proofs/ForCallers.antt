-- What the crates above cite of this crate's proofs.
pub use Rattle.nit_rounds.proofs.DrawingLemmas.{put_as_pictures, stays_throughout}
pub use Rattle.nit_rounds.proofs.ShotFiles.{as_many_files, file_of_a_shot, files_both, no_files}
pub use Rattle.nit_rounds.proofs.ShotFiles.{shots_along, shots_both}
pub use Rattle.nit_rounds.proofs.RunStateLemmas.{each_at}
