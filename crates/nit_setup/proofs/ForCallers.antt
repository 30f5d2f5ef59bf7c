-- What the crates above cite of this crate's proofs.
pub use Rattle.nit_setup.proofs.JudgementLemmas.{codes_agree, valid_not_refused}
pub use Rattle.nit_setup.proofs.ScriptsRead.{all_wanted, by_length, one_wanted, other_phases}
pub use Rattle.nit_setup.proofs.ScriptsRead.{phases_are, told_so, told_so_both}
pub use Rattle.nit_setup.proofs.ClipFilesRead.{all_so, journal_stopped}
pub use Rattle.nit_setup.proofs.NumberWords.{other_short}
