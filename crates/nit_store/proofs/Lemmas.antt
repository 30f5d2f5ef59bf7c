-- What answers use: all that lemmas use, and this crate's lemmas.
pub use Rattle.nit_store.proofs.Basics.{FailsNext, File, HasDifferentNames, MemoryStoreModel}
pub use Rattle.nit_store.proofs.Basics.{file_at, files_of, have_different_names, position}
pub use Rattle.nit_store.proofs.Basics.{with_file}
pub use Rattle.nit_store.proofs.NamedFiles.{Stored, different-with_file, has_name, none_behind}
pub use Rattle.nit_store.proofs.NamedFiles.{put_at, put_last, puts_both, puts_more}
