pub mod GlyphTexts
pub mod ZerosBehind
pub mod TableLemmas
pub mod PicturesTell
pub mod LargeGlyphs
pub mod BoolLemmas
pub mod Basics
pub mod Lemmas
