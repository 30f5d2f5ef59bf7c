-- The words of the library and of the crates below that are used here, and the crate's plain types.
pub use Rattle.nit_glyph.specs.declared.lettering.Glyphs.{Glyphs}
pub use Rattle.nit_glyph.specs.declared.lettering.Glyphs.TheVariants.{Large, Small}
pub use Rattle.nit_glyph.specs.declared.lettering.Lettering.{Lettering}
pub use Rattle.std.specs.Char.{is_ascii_digit, is_ascii_lowercase}
pub use Rattle.std.specs.Cmp.{partial_equiv_from_equiv}
pub use Rattle.std.specs.Cmp.Lexicographic.{nat_list_eq_equiv}
pub use Rattle.std.specs.List.{list_all, list_any, range_with_len}
pub use Rattle.std.specs.Option.{option_copied, option_map}
pub use Rattle.std.specs.Prelude.{IfSome, IsTrue, None, codes, find, is_some, slice_index, sum}
pub use Rattle.std.specs.Prelude.{unwrap_or}
pub use Rattle.std.specs.Str.{bytes_eq}
