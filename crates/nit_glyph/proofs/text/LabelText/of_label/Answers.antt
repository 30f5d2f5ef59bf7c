use Rattle.nit_glyph.proofs.Lemmas.{label_has_glyphs}
use Rattle.nit_glyph.proofs.text.LabelText.of_label.Goals as goal

pub invariant_of-result : goal.invariant_of-result
invariant_of-result c =
    rw (c.append.ensures, c.empty-text.ensures, c.as_bytes.ensures.bytes)
    (c.as_bytes.ensures.some, label_has_glyphs _ c.as_bytes.ensures.label)
