-- The words of the library and of the crates below that are used here, and the crate's plain types.
pub use Rattle.nit_capture.specs.declared.player.Played.TheVariants.{Bad, End, Frame}
pub use Rattle.nit_rect.specs.Intersection.{HasPixels, LiesIn}
pub use Rattle.nit_rect.specs.Limits.{most_run_height, most_run_width}
pub use Rattle.nit_rect.specs.Options.{Gives}
pub use Rattle.nit_rect.specs.Rectangle.{IsPlace, Rectangle, covers, rectangle, spans}
pub use Rattle.nit_word.specs.Channels.{blue, channels, green, red, word_of}
pub use Rattle.nit_word.specs.Inks.{IsWord}
pub use Rattle.std.specs.List.{AllByRecursion, filter, flat_map, list_any, prefix_len}
pub use Rattle.std.specs.List.{range_with_len}
pub use Rattle.std.specs.Prelude.{All, IfErr, IfOk, IsErr, List, OnErr, OnOk, [], codes, cond, drop}
pub use Rattle.std.specs.Prelude.{length, nat_abs, negsuc, pos, replicate, slice_index, slice_set}
pub use Rattle.std.specs.Prelude.{take, ℕ, ℤ}
