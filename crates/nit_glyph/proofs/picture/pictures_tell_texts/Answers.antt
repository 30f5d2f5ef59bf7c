use Rattle.nit_glyph.proofs.Lemmas.{texts_same}
use Rattle.nit_glyph.proofs.picture.pictures_tell_texts.Goals as goal

pub returns : goal.returns
returns c = texts_same
