use Rattle.nit_word.proofs.Lemmas.{dim_bits}
use Rattle.nit_word.proofs.shade.dim.Goals as goal

pub returns : goal.returns
returns c = dim_bits c.args.w c.requires
