-- What lemmas use: the words of clauses, the library's lemmas, and those of the crates below.
pub use Rattle.nit_paint.specs.Terms.{AreSet, Bare, Black, Block, HasPixels, IsAmongLoads, IsLoaded}
pub use Rattle.nit_paint.specs.Terms.{IsLoadedRow, IsOnScreen, IsPiece, IsScreenSize, IsSlotView}
pub use Rattle.nit_paint.specs.Terms.{IsStack, IsTrue, IsWord, IsWordOfSource, Piece, PixelSource}
pub use Rattle.nit_paint.specs.Terms.{Point, Reach, Rectangle, Repainted, ShowsWholeRows, Sight}
pub use Rattle.nit_paint.specs.Terms.{SlotView, StackModel, View, ViewRef, Word, among, black_or_word}
pub use Rattle.nit_paint.specs.Terms.{buffer_place, covers, enumerate_from, has_pixel, in_rows}
pub use Rattle.nit_paint.specs.Terms.{in_run, index_at, index_from, is_slot, is_word_of, loads_at}
pub use Rattle.nit_paint.specs.Terms.{loads_in_row, loads_of, long, no_sight, option_map, own_word, owner_in}
pub use Rattle.nit_paint.specs.Terms.{pixel, point, reached, rectangle, row_at, row_source, seen}
pub use Rattle.nit_paint.specs.Terms.{shown_index, size_of, slice_index}
pub use Rattle.nit_paint.specs.Terms.{slot_view_in, source_of_number, times_shown, view_ref}
pub use Rattle.nit_paint.specs.Terms.{ℤ}
pub use Rattle.nit_stack.proofs.ForCallers.{All_found, source_bare, source_is}
pub use Rattle.nit_word.proofs.ForCallers.{at_place, loaded_after, more_taken, seen_none}
pub use Rattle.nit_word.proofs.ForCallers.{seen_twice}
pub use Rattle.std.proofs.Common.{ap, arith, refl, rules}
pub use Rattle.std.proofs.Math.Nat.{add-mul, mul-le-mul_left, mul-le-mul_right}
pub use Rattle.std.proofs.lemmas.Bool.{cases_Bool, cases_lt, cases_order, eq-eqb, eqb-true}
pub use Rattle.std.proofs.lemmas.Bool.{or_parts}
pub use Rattle.std.proofs.lemmas.Bool.Decides.{nat_tests}
pub use Rattle.std.proofs.lemmas.Grind.{get_or-set_at}
pub use Rattle.std.proofs.lemmas.Int.{ints, to_z-of_z}
pub use Rattle.std.proofs.lemmas.List.{get_or_default, places, set-get_or, take_all}
pub use Rattle.std.proofs.lemmas.List.Elements.{Contains-append_left, Contains-append_right}
pub use Rattle.std.proofs.lemmas.List.Elements.{Contains-push}
pub use Rattle.std.proofs.lemmas.List.Sums.{sum_by-append}
pub use Rattle.std.proofs.lemmas.Nat.{div_below, rows}
