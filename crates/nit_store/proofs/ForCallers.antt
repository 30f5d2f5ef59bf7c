-- What other crates cite of stores: what was put or said, and then more.
pub use Rattle.nit_store.proofs.NamedFiles.{none_behind, other_name, puts_both, puts_more}
pub use Rattle.nit_store.proofs.NamedFiles.{saying-nil, saying-saying}
