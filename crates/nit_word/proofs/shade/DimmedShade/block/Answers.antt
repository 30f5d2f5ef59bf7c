use Rattle.nit_word.proofs.Lemmas.{dim_lanes}
use Rattle.nit_word.proofs.shade.DimmedShade.block.Goals as goal

pub returns : goal.returns
returns c = dim_lanes c.args.words c.fits-words.0 c.requires
