-- What other crates cite of words: those that are set, loaded or zero, and their places in rows.
pub use Rattle.nit_word.proofs.Loads.{loaded_after, more_taken, seen_none, seen_twice}
pub use Rattle.nit_word.proofs.ReachedWords.{filled_at, filled_long, none_past, same_filled}
pub use Rattle.nit_word.proofs.RowPlaces.{before_row, column_and_row}
pub use Rattle.nit_word.proofs.UpdateLemmas.{are_set, both_set, next_between, none_between}
pub use Rattle.nit_word.proofs.UpdateLemmas.{none_set, same_colours, same_set, set_long, word_at}
pub use Rattle.nit_word.proofs.SideBySide.{at_place, put_long, turn_there}
pub use Rattle.nit_word.proofs.WordsInInk.{inked_fits, no_ink}
pub use Rattle.nit_word.proofs.ZeroLemmas.{length-zeros, zero_at, zero_inked}
