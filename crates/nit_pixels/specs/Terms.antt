-- The words that clauses use: those that come from outside, and those of this crate.
pub use Rattle.nit_pixels.specs.Below.{AllByRecursion, Allows, FitsLine, HasStage, HaveWords}
pub use Rattle.nit_pixels.specs.Below.{Identity, IsAmong, IsInked, IsRunDonation, Joins, List}
pub use Rattle.nit_pixels.specs.Below.{MayHold, None, PixelView, Splits, Stages, [], keeps}
pub use Rattle.nit_pixels.specs.Below.{most_run_words, opening, option_map, step, stored}
pub use Rattle.nit_pixels.specs.Below.{table_size, told_words, with_stages, zeros}
pub use Rattle.nit_pixels.specs.End.{new_sight, reader_sight}
pub use Rattle.nit_pixels.specs.PixelRule.{AgreesAt, IsPixelRule, IsViewOf, IsWatching, LoadStep}
pub use Rattle.nit_pixels.specs.PixelRule.{PixelState, SeatState, StoreStep, agreeing, agreeing_as}
pub use Rattle.nit_pixels.specs.PixelRule.{owner_view, owners_script, reader_view, stages_of}
pub use Rattle.nit_pixels.specs.PixelRule.{unagreed, view_loaded, view_stored, watching_view}
pub use Rattle.nit_pixels.specs.PixelSeat.{IsOwners, IsPixelSeatOf, IsZeroBehind, PixelSeat}
pub use Rattle.nit_pixels.specs.PixelSeat.{sight_of}
