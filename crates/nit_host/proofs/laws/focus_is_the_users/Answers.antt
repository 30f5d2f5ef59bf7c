use Rattle.nit_host.proofs.Lemmas.{as_told, by_click, comes_by_act, goes_by_act}
use Rattle.nit_events.specs.declared.device.Device.TheVariants as device
use Rattle.nit_host.proofs.laws.focus_is_the_users.Goals as goal

pub returns : goal.returns
returns c = record {
  comes = comes_by_act;
  goes = goes_by_act;
  clicked = λ h k served button free plain taken.
      rw (as_told h (device.Press k) served) (by_click h.state free k button plain taken);
}
