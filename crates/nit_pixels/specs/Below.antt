-- The words of the library and of the crates below that are used here, and the crate's plain types.
pub use Rattle.atomic_table.specs.Seated.{TableId, table_id_coded}
pub use Rattle.atomic_table.specs.Table.{Allows, Joins, Me, Splits, State, Step, keeps, opening}
pub use Rattle.atomic_table.specs.Table.{step}
pub use Rattle.atomic_table.specs.declared.shared.Seat.{Seat}
pub use Rattle.nit_pixels.specs.declared.steps.Identity.{Identity}
pub use Rattle.nit_pixels.specs.declared.steps.PixelView.{PixelView}
pub use Rattle.nit_plan.specs.ScriptWords.{blank, script_ink, stages_from, table_size}
pub use Rattle.nit_rect.specs.Limits.{most_run_words}
pub use Rattle.nit_script.specs.Spelling.{FitsLine}
pub use Rattle.nit_script.specs.declared.line.Line.{Line}
pub use Rattle.nit_slots.specs.Account.{IsRunDonation}
pub use Rattle.nit_word.specs.Inks.{IsAmong, IsInked, IsWord, Stages}
pub use Rattle.nit_word.specs.Sight.{HasStage, HaveWords, MayHold, Sight, stored, told_words}
pub use Rattle.nit_word.specs.Sight.{with_stages}
pub use Rattle.nit_word.specs.Zeros.{zeros}
pub use Rattle.std.specs.List.{AllByRecursion}
pub use Rattle.std.specs.Option.{option_map}
pub use Rattle.std.specs.Prelude.{List, None, Some, [], slice_index, slice_set, ℕ}
