-- What answers use: all that lemmas use, and this crate's lemmas.
pub use Rattle.nit_paint.proofs.Basics.{Bare, PixelSource, Repainted, Sight, among, ap, arith}
pub use Rattle.nit_paint.proofs.Basics.{black_or_word, in_rows, index_at, ints, long, no_sight}
pub use Rattle.nit_paint.proofs.Basics.{option_map, own_word, places, reached, refl, row_at}
pub use Rattle.nit_paint.proofs.Basics.{row_source, rules, to_z-of_z}
pub use Rattle.nit_paint.proofs.Blocks.{row_told, rows_more, rows_none}
pub use Rattle.nit_paint.proofs.OneMore.{loaded_by, skipped}
pub use Rattle.nit_paint.proofs.PieceOwners.{bare_told, piece_of_owner, rows_fit, seat_stands}
pub use Rattle.nit_paint.proofs.PieceOwners.{view_told, whole_piece}
pub use Rattle.nit_paint.proofs.Pixels.{black_after, black_before, filled, row_loaded, three_runs}
pub use Rattle.nit_paint.proofs.Pixels.{words_within}
pub use Rattle.nit_paint.proofs.RepaintLemmas.{other_count, repainted_both, repainted_none}
pub use Rattle.nit_paint.proofs.RepaintLemmas.{repainted_same, repainted_union, repainted_words}
pub use Rattle.nit_paint.proofs.WholeRows.{rows_within, run_of_rows, words_shown}
