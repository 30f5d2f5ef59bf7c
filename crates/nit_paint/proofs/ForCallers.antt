-- What the crates above cite of this crate's proofs.
pub use Rattle.nit_paint.proofs.FrameCopyLemmas.{nothing_set, set_same, set_then}
pub use Rattle.nit_paint.proofs.PieceOwners.{column_of, row_of}
pub use Rattle.nit_paint.proofs.RepaintLemmas.{other_count, repainted_none, repainted_same}
pub use Rattle.nit_paint.proofs.RepaintLemmas.{repainted_union, repainted_words}
