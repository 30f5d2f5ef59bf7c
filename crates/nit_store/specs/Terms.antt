-- The words that clauses use: those that come from outside, and those of this crate.
pub use Rattle.nit_store.specs.Below.{Contains, Global, IfOk, IsErr, IsErrOf, IsTrue, IsUtf8, OnErr}
pub use Rattle.nit_store.specs.Below.{OnOk, String, Vec, bytes_eq, is_none, nat_lt, option_copied}
pub use Rattle.nit_store.specs.Below.{option_map, position, position_or_len, string_bytes}
pub use Rattle.nit_store.specs.Files.{HasDifferentNames, files_of, have_different_names, names_of}
pub use Rattle.nit_store.specs.Files.{with_file}
pub use Rattle.nit_store.specs.MemoryStore.{FailsNext, MemoryStoreModel}
pub use Rattle.nit_store.specs.Puts.{PutRefusal, PutState, PutsAll, PutsNext, PutsUnless}
pub use Rattle.nit_store.specs.Store.{File, IsPut, PutIn, StoreModel, file_at, one_more, with_said}
