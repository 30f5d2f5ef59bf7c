use Rattle.nit_damage.proofs.Lemmas.{arith, owned_behind, unowned}
use Rattle.nit_damage.proofs.laws.owned_pixels.Goals as goal

pub returns : goal.returns
returns c = record { owned = owned_behind; none = λ s k p gone. grind (arith, unowned k p s.views gone) }
