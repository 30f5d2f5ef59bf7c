use Rattle.nit_glyph.proofs.Lemmas.{arith, joined_has_glyphs, length-append}
use Rattle.nit_glyph.proofs.text.LabelText.append.Goals as goal

pub invariant_of-self : goal.invariant_of-self
invariant_of-self c =
    rw (c.append-2.ensures, c.append.ensures)
    (simp length-append (omega (arith, c.self.invariant.0)), joined_has_glyphs _ _ c.self.invariant.1 c.requires.glyphs)
