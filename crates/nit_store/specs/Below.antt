-- The words of the library and of the crates below that are used here, and the crate's plain types.
pub use Rattle.nit_store.specs.declared.store.PutError.{PutError}
pub use Rattle.nit_store.specs.declared.store.PutError.TheVariants.{Failed, NoMemory}
pub use Rattle.nit_store.specs.declared.store.ReadError.{ReadError}
pub use Rattle.std.specs.Global.{Global}
pub use Rattle.std.specs.List.{position, position_or_len}
pub use Rattle.std.specs.Option.{option_copied}
pub use Rattle.std.specs.Prelude.{Contains, IfOk, IsErr, IsErrOf, IsTrue, List, None, OnErr, OnOk}
pub use Rattle.std.specs.Prelude.{Some, String, Vec, is_none, nat_lt, option_map, string_bytes, ℕ}
pub use Rattle.std.specs.Str.{IsUtf8, bytes_eq}
