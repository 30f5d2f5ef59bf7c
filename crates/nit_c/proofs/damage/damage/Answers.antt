use Rattle.nit_c.proofs.Lemmas.{damage_told}
use Rattle.nit_c.proofs.damage.damage.Goals as goal

pub returns : goal.returns
returns c =
    let found = c.damage.ensures in
    let told = c.damage_of.ensures in (
      damage_told c.args.host.now c.damage.result c.damage_of.result told.kind told.parts found.parts found.screen
          found.changed,
      found.host,
    )
