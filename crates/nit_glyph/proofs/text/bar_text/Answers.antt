use Rattle.nit_glyph.proofs.Lemmas.{label_has_glyphs}
use Rattle.nit_glyph.proofs.text.bar_text.Goals as goal

pub append-requires-clause-glyphs : goal.append-requires-clause-glyphs
append-requires-clause-glyphs c = rw c.as_bytes.ensures.bytes (label_has_glyphs _ c.as_bytes.ensures.label)
