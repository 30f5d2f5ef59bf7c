-- What lemmas use: the words of clauses, the library's lemmas, and those of the crates below.
pub use Rattle.nit_word.specs.Terms.{AreInkedBetween, Colours, Ink, IsInked, IsLoaded, IsLoadedRow}
pub use Rattle.nit_word.specs.Terms.{IsOfColours, IsWord, Sight, Stages, dim, enumerate_from}
pub use Rattle.nit_word.specs.Terms.{filled_up, in_turn, inked_sight, is_between, option_map, seen}
pub use Rattle.nit_word.specs.Terms.{glass_in, loads_in_row, no_sight, with_glass}
pub use Rattle.nit_word.specs.Terms.{set_where, slice_index, tint, told_at, with_words, zeros}
pub use Rattle.std.proofs.Common.{List, ap, arith, length, length-set, min, set, sym, ℕ, ◌∙◌}
pub use Rattle.std.proofs.Math.Nat.{div-lt_iff_lt-mul, mul-le-mul_right}
pub use Rattle.std.proofs.Math.Seq.{map-set_same}
pub use Rattle.std.proofs.lemmas.Bool.{cases_Bool, cases_eq, cases_lt, cond_both}
pub use Rattle.std.proofs.lemmas.Bool.Decides.{nat_tests}
pub use Rattle.std.proofs.lemmas.Grind.{get_or-set_at}
pub use Rattle.std.proofs.lemmas.List.{drop-drop, drop_all, drop_at, ext_get_or}
pub use Rattle.std.proofs.lemmas.List.{get_or-append_right, get_or-drop, get_or-map}
pub use Rattle.std.proofs.lemmas.List.{get_or-replicate, get_or-take, get_or_append_left}
pub use Rattle.std.proofs.lemmas.List.{get_or_default, get_or_past, length-append, length-drop}
pub use Rattle.std.proofs.lemmas.List.{length-map, length-replicate, length-take-le, map-append}
pub use Rattle.std.proofs.lemmas.List.{map-set}
pub use Rattle.std.proofs.lemmas.List.{places, replicate-append-replicate, set-append_left}
pub use Rattle.std.proofs.lemmas.List.{take_all, take_at, take_more_set}
pub use Rattle.std.proofs.lemmas.List.Edits.{map_over_more}
pub use Rattle.std.proofs.lemmas.List.Elements.{All-drop, All-take}
pub use Rattle.std.proofs.lemmas.List.Folds.{Any-from_list_any}
pub use Rattle.std.proofs.lemmas.List.FromFn.{get_or-enumerate_from, length-enumerate_from}
pub use Rattle.std.proofs.lemmas.Nat.{and_block, and_mask, div-add-mod', mod_below, or_comm}
pub use Rattle.std.proofs.lemmas.Nat.{or_shifted}
pub use Rattle.std.proofs.lemmas.Simd.{length-chunk, map-map, put_chunk_is, zip2_splat}
