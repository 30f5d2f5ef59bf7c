use Rattle.nit_word.proofs.Lemmas.{tint_lanes}
use Rattle.nit_word.proofs.shade.TintedShade.block.Goals as goal

pub returns : goal.returns
returns c = tint_lanes c.args.words c.block.result c.fits-words.0 c.requires c.block.ensures
