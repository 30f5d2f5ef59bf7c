-- What answers use: all that lemmas use, and this crate's lemmas.
pub use Rattle.nit_word.proofs.Basics.{All-take, IsWord, List, Sight, ap, arith, filled_up}
pub use Rattle.nit_word.proofs.Basics.{get_or_past, in_turn, is_between, length, length-set, min}
pub use Rattle.nit_word.proofs.Basics.{set, set_where, slice_index, sym, told_at, with_words, ℕ}
pub use Rattle.nit_word.proofs.Basics.{◌∙◌}
pub use Rattle.nit_word.proofs.Bits.{dim_bits, dim_lanes, tint_lanes}
pub use Rattle.nit_word.proofs.InkUpdates.{at_any, between_inked, colours_in, copied_inked}
pub use Rattle.nit_word.proofs.InkUpdates.{reached_inked, sight_set, zeros_inked}
pub use Rattle.nit_word.proofs.Loads.{IsLoadedTo, one_loaded, seen_none}
pub use Rattle.nit_word.proofs.PixelRows.{MappedTo, all_mapped, block_mapped, more_mapped, rest_all}
pub use Rattle.nit_word.proofs.PixelRows.{word_mapped}
pub use Rattle.nit_word.proofs.ReachedWords.{all_reached, copied_in, filled_at, none_more}
pub use Rattle.nit_word.proofs.ReachedWords.{none_wiped, one_in, reached_long, set_in, some_more}
pub use Rattle.nit_word.proofs.ReachedWords.{whole_long, wiped, wiped_in}
pub use Rattle.nit_word.proofs.SessionSights.{it_is, left_at, listed_seen, none_listed}
pub use Rattle.nit_word.proofs.SideBySide.{alternated, copied, filled, first_turn, none_copied}
pub use Rattle.nit_word.proofs.SideBySide.{row_read, second_turn}
pub use Rattle.nit_word.proofs.UpdateLemmas.{next_between, none_between, same_colours}
pub use Rattle.nit_word.proofs.WordsInInk.{all_fit, place_loaded, row_loaded}
