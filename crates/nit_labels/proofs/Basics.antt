-- What lemmas use: the words of clauses, the library's lemmas, and those of the crates below.
pub use Rattle.nit_labels.specs.Terms.{AreDown, AreFoundFrom, IsAgainAbove, IsEarlier, OwnsDown}
pub use Rattle.nit_labels.specs.Terms.{CountsDown, OwnsArea, IsLeastFrom, IsLeastPlace, IsRun, IsTop}
pub use Rattle.nit_labels.specs.Terms.{Point, counted, owner_at, spot, put_where}
pub use Rattle.nit_labels.specs.Terms.{IsOfRun, IsRowOf, slice_index_or}
pub use Rattle.std.proofs.Common.{arith, inl, inr, refl, sym}
pub use Rattle.std.proofs.lemmas.Bool.{cases_eq, cases_lt}
pub use Rattle.std.proofs.lemmas.Bool.Decides.{nat_tests}
pub use Rattle.std.proofs.lemmas.List.{get_or-set_other, get_or-set_same}
