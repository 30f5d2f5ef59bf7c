use Rattle.nit_glyph.proofs.Lemmas.{title_has_glyphs}
use Rattle.nit_glyph.proofs.text.label_text.Goals as goal

pub append-requires-clause-glyphs : goal.append-requires-clause-glyphs
append-requires-clause-glyphs c = rw c.as_bytes-title.ensures.bytes (title_has_glyphs _ c.as_bytes-title.ensures.title)
