-- What the crates above cite of this crate's proofs.
pub use Rattle.nit_hall.proofs.EntryLemmas.{not_both, split_more}
pub use Rattle.nit_hall.proofs.LineLemmas.{counted_more, counted_same, actions_done, actions_line}
pub use Rattle.nit_hall.proofs.LineLemmas.{device_fits}
pub use Rattle.nit_hall.proofs.NearLemmas.{told_word}
pub use Rattle.nit_hall.proofs.ScriptsFollowed.{made_of}
pub use Rattle.nit_hall.proofs.ServedCalls.{WereSeen}
