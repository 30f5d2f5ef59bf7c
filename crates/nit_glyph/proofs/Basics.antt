-- What lemmas use: the words of clauses, the library's lemmas, and those of the crates below.
pub use Rattle.nit_glyph.specs.Terms.{Glyphs, IfSome, IsLettering, IsOfGlyphs, IsPadded, IsTrue, Large}
pub use Rattle.nit_glyph.specs.Terms.{Lettering, None, SamePicture, Small, bar_text_of, codes}
pub use Rattle.nit_glyph.specs.Terms.{columns_of, dots_apart, find, glyph_row, is_label, is_label_byte}
pub use Rattle.nit_glyph.specs.Terms.{is_some, is_title, is_title_byte, label_text_of, large_glyphs}
pub use Rattle.nit_glyph.specs.Terms.{list_all, list_any, option_map, padded, picture_height}
pub use Rattle.nit_glyph.specs.Terms.{picture_width, range_with_len, row_has_dot, rows_of, slice_index}
pub use Rattle.nit_glyph.specs.Terms.{small_glyphs, step_of, sum, table_of, text_dot, unwrap_or}
pub use Rattle.std.proofs.Common.{arith, length-append}
pub use Rattle.std.proofs.Math.Bool.{beq}
pub use Rattle.std.proofs.Math.Nat.{eq_of_mul-eq-mul_left, mul-div_cancel_left}
pub use Rattle.std.proofs.Math.Nat.{mul-lt-mul_of_pos_left}
pub use Rattle.std.proofs.lemmas.Bool.{agree_below, agree_below_at, and_from, and_parts, eqb-true}
pub use Rattle.std.proofs.lemmas.Bool.{le-leb, leb-true, ne_eqb, or_left}
pub use Rattle.std.proofs.lemmas.Bool.Decides.{nat_tests}
pub use Rattle.std.proofs.lemmas.Grind.{same_number_lists}
pub use Rattle.std.proofs.lemmas.List.{drop-replicate, drop_at, length-take}
pub use Rattle.std.proofs.lemmas.List.Folds.{list_all-append}
pub use Rattle.std.proofs.lemmas.List.Sums.{AllPass-from_list_all, list_all-from_AllPass}
pub use Rattle.std.proofs.lemmas.Nat.{div-mul-add, mod-mul-add}
pub use Rattle.std.proofs.lemmas.Slice.{take-put_mid}
pub use Rattle.std.specs.Prelude.{bit_xor, count_ones, nat_le}
