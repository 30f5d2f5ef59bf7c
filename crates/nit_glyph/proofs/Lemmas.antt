-- What answers use: all that lemmas use, and this crate's lemmas.
pub use Rattle.nit_glyph.proofs.Basics.{arith, length-append}
pub use Rattle.nit_glyph.proofs.GlyphTexts.{bar_text_has_glyphs, joined_has_glyphs}
pub use Rattle.nit_glyph.proofs.GlyphTexts.{label_has_glyphs, label_text_has_glyphs}
pub use Rattle.nit_glyph.proofs.GlyphTexts.{title_has_glyphs}
pub use Rattle.nit_glyph.proofs.LargeGlyphs.{large_apart}
pub use Rattle.nit_glyph.proofs.PicturesTell.{texts_same}
pub use Rattle.nit_glyph.proofs.TableLemmas.{both_tables}
pub use Rattle.nit_glyph.proofs.ZerosBehind.{padded-append, take-padded}
