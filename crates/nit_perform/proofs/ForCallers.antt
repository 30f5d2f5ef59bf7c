-- What the crates above cite of this crate's proofs.
pub use Rattle.nit_perform.proofs.InnerLemmas.{DrawnLaw, UserOnce, frames_counted}
pub use Rattle.nit_perform.proofs.PutLemmas.{PutAll, PutRefused, PutSo, PutUntil, all_put, none_is}
