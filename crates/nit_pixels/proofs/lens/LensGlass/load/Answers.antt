use Rattle.nit_pixels.proofs.Lemmas.{loads_keep, rules}
use Rattle.nit_pixels.proofs.lens.LensGlass.load.Goals as goal

pub load-requires : goal.load-requires
load-requires c = (search rules, search rules, loads_keep _ _ _ _ _)
