use Rattle.nit_glyph.proofs.Lemmas.{bar_text_has_glyphs, label_text_has_glyphs}
use Rattle.nit_glyph.proofs.picture.texts_have_glyphs.Goals as goal

pub returns-clause-view : goal.returns-clause-view
returns-clause-view c = label_text_has_glyphs

pub returns-clause-bar : goal.returns-clause-bar
returns-clause-bar c = bar_text_has_glyphs
