-- The words that clauses use: those that come from outside, and those of this crate.
pub use Rattle.nit_glyph.specs.Below.{Glyphs, IfSome, IsTrue, Large, Lettering, None, Small}
pub use Rattle.nit_glyph.specs.Below.{bytes_eq, codes, find, is_some, list_all, list_any}
pub use Rattle.nit_glyph.specs.Below.{nat_list_eq_equiv, option_copied, option_map}
pub use Rattle.nit_glyph.specs.Below.{partial_equiv_from_equiv, range_with_len, slice_index, sum}
pub use Rattle.nit_glyph.specs.Below.{unwrap_or}
pub use Rattle.nit_glyph.specs.Glyphs.{large_glyphs, small_glyphs}
pub use Rattle.nit_glyph.specs.Lettering.{IsLettering, columns_of, most_picture_height}
pub use Rattle.nit_glyph.specs.Lettering.{most_picture_width, most_scale, picture_height}
pub use Rattle.nit_glyph.specs.Lettering.{picture_width, plain, rows_of, step_of}
pub use Rattle.nit_glyph.specs.Padded.{IsPadded, padded}
pub use Rattle.nit_glyph.specs.Pictures.{IsOfGlyphs, SamePicture, column_bit, dot, dots_apart}
pub use Rattle.nit_glyph.specs.Pictures.{glyph_row, glyph_rows, row_has_dot, table_of, text_dot}
pub use Rattle.nit_glyph.specs.Texts.{bar_text_of, is_label, is_label_byte, is_title, is_title_byte}
pub use Rattle.nit_glyph.specs.Texts.{label_text_of, most_label, most_label_text, most_title}
