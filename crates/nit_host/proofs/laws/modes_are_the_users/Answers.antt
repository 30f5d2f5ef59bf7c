use Rattle.nit_host.proofs.Lemmas.{as_told, by_kill_click, by_kill_key, by_xray_key, mode_by_act}
use Rattle.nit_events.specs.declared.device.Device.TheVariants as device
use Rattle.nit_events.specs.Input
use Rattle.nit_host.proofs.laws.modes_are_the_users.Goals as goal

pub returns : goal.returns
returns c = record {
  others = mode_by_act;
  xray_key = λ h served free. rw (as_told h (device.Press Input.xray_key) served) (by_xray_key h.state free);
  kill_key = λ h served free. rw (as_told h (device.Press Input.kill_key) served) (by_kill_key h.state free);
  kill_click = λ h served free kill.
      rw (as_told h (device.Press Input.kill_button) served) (by_kill_click h.state free kill);
}
