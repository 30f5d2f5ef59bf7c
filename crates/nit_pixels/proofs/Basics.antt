-- What lemmas use: the words of clauses, the library's lemmas, and those of the crates below.
pub use Rattle.atomic_table.proofs.Lists.{at_set}
pub use Rattle.nit_pixels.specs.Terms.{AgreesAt, AllByRecursion, Allows, FitsLine, HaveWords}
pub use Rattle.nit_pixels.specs.Terms.{Identity, IsAmong, IsInked, IsOwners, IsPixelRule, IsViewOf}
pub use Rattle.nit_pixels.specs.Terms.{IsWatching, IsZeroBehind, Joins, List, LoadStep, None}
pub use Rattle.nit_pixels.specs.Terms.{PixelSeat, PixelState, PixelView, SeatState, Splits, Stages}
pub use Rattle.nit_pixels.specs.Terms.{StoreStep, [], agreeing, agreeing_as, keeps, new_sight}
pub use Rattle.nit_pixels.specs.Terms.{opening, option_map, owner_view, owners_script, reader_view}
pub use Rattle.nit_pixels.specs.Terms.{sight_of, stages_of, step, table_size, told_words, unagreed}
pub use Rattle.nit_pixels.specs.Terms.{view_loaded, view_stored, watching_view, zeros}
pub use Rattle.nit_plan.proofs.ForCallers.{stage_fits}
pub use Rattle.nit_word.proofs.ForCallers.{length-zeros, zero_at, zero_inked}
pub use Rattle.std.proofs.Common.{IfSome, IsSome, Option, ap, arith, get_or, inl, inr, length}
pub use Rattle.std.proofs.Common.{rules, ◌∙◌}
pub use Rattle.std.proofs.lemmas.List.{take-replicate}
pub use Rattle.std.proofs.lemmas.Option.{IfSome_then}
