-- The words that clauses use: those that come from outside, and those of this crate.
pub use Rattle.nit_word.specs.Below.{enumerate_from, list_any, option_map, slice_index}
pub use Rattle.nit_word.specs.Channels.{dim, tint}
pub use Rattle.nit_word.specs.Sights.{BesideRest, LentRest, glass_in, loads_in_row, no_sight}
pub use Rattle.nit_word.specs.Sights.{with_glass}
pub use Rattle.nit_word.specs.Inks.{AreInkedBetween, Colours, Ink, IsAmong, IsInked, IsOfColours}
pub use Rattle.nit_word.specs.Inks.{IsWord, Stages}
pub use Rattle.nit_word.specs.Sight.{HasStage, HaveWords, IsLoaded, IsLoadedRow, MayHold}
pub use Rattle.nit_word.specs.Sight.{MayHoldBetween, Sight, TellsAll, inked_sight, with_stages}
pub use Rattle.nit_word.specs.Sight.{plain_sight, plain_stored, seen, stored, told_at}
pub use Rattle.nit_word.specs.Updates.{in_turn, is_between, set_where, with_words}
pub use Rattle.nit_word.specs.Zeros.{filled_up, zeros}
