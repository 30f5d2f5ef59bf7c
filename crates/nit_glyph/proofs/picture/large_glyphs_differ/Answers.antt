use Rattle.nit_glyph.proofs.Lemmas.{both_tables, large_apart}
use Rattle.nit_glyph.proofs.picture.large_glyphs_differ.Goals as goal

pub returns-clause-characters : goal.returns-clause-characters
returns-clause-characters c = both_tables

pub returns-clause-dots : goal.returns-clause-dots
returns-clause-dots c = large_apart
