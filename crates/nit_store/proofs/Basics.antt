-- What lemmas use: the words of clauses, the library's lemmas, and those of the crates below.
pub use Rattle.nit_store.specs.Terms.{FailsNext, File, Global, HasDifferentNames, IsPut}
pub use Rattle.nit_store.specs.Terms.{MemoryStoreModel, PutIn, PutRefusal, PutState, PutsAll}
pub use Rattle.nit_store.specs.Terms.{PutsNext, PutsUnless, StoreModel, String, Vec, bytes_eq}
pub use Rattle.nit_store.specs.Terms.{file_at, files_of, have_different_names, is_none, nat_lt}
pub use Rattle.nit_store.specs.Terms.{option_map, position, position_or_len, string_bytes}
pub use Rattle.nit_store.specs.Terms.{with_file, with_said}
pub use Rattle.std.proofs.lemmas.Bool.{not-true}
pub use Rattle.std.proofs.lemmas.Bool.Decides.{nat_tests}
pub use Rattle.std.proofs.lemmas.List.{append-nil}
pub use Rattle.std.proofs.lemmas.List.Quantifiers.{position-Some}
pub use Rattle.std.proofs.lemmas.List.Sums.{prefix_len_passes}
pub use Rattle.std.proofs.lemmas.Slice.Eq.{bytes_eq-Decides}
