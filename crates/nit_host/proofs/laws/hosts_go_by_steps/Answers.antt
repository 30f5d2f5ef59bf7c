use Rattle.nit_host.proofs.Lemmas.{all_acts}
use Rattle.nit_host.proofs.laws.hosts_go_by_steps.Goals as goal

pub returns : goal.returns
returns c = record {
  steps = λ h acts. (all_acts h acts).0;
  state = λ h acts. (all_acts h acts).1;
}
