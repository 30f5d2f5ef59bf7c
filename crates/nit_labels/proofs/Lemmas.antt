-- What answers use: all that lemmas use, and this crate's lemmas.
pub use Rattle.nit_labels.proofs.Basics.{AreDown, AreFoundFrom, IsAgainAbove, CountsDown, IsRun, arith, counted}
pub use Rattle.nit_labels.proofs.Basics.{cases_eq, get_or-set_other, get_or-set_same, inl, inr}
pub use Rattle.nit_labels.proofs.Basics.{IsOfRun, IsRowOf, owner_at, refl, slice_index_or, sym}
pub use Rattle.nit_labels.proofs.Counts.{down_step}
pub use Rattle.nit_labels.proofs.Found.{found_all, found_row, found_run, found_short, found_skip}
pub use Rattle.nit_labels.proofs.Runs.{run_row}
