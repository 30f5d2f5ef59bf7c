use Rattle.nit_hall.proofs.Lemmas.{rules, shot_told}
use Rattle.nit_hall.proofs.hall.Hall.shoot.Goals as goal

pub returns : goal.returns
returns g c = record {
  told = shot_told c.shoot.result c.shoot.new.out c.behind-kept.invariant.0 c.scene-near.ensures.config
      c.scene-near.ensures.near c.shoot.ensures.frame c.shoot.ensures.room c.shoot.ensures.acted;
  legal = search rules;
  history = search rules;
  coloured = search rules;
  user = search rules;
}
