use Rattle.nit_host.proofs.Lemmas.{held_by_act, held_by_device}
use Rattle.nit_host.proofs.laws.codes_are_held_until_released.Goals as goal

pub returns : goal.returns
returns c = record {
  user = held_by_device;
  others = held_by_act;
}
