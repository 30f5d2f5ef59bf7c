use Rattle.nit_host.proofs.Lemmas.{Device, HostModel, after_acts, refl, routed_of, steps_of, ◌∙◌}
use Rattle.nit_events.specs.declared.device.Device.TheVariants as device
use Rattle.nit_host.proofs.laws.input_goes_where_it_is_meant.Goals as goal

pub returns : goal.returns
returns c =
    let fit = λ (h : HostModel) (dev : Device). c.deliveries_fit.ensures h.state 0 dev (routed_of h dev) refl in
    let meant = c.input_goes_where_it_is_meant.ensures in
    let along = c.input_goes_where_it_is_meant_along_steps.ensures in
    let go = c.hosts_go_by_steps.ensures in
    record {
      keys = λ h k flat none key. fit h (device.Press k) ∙ meant.keys h.state k flat none key;
      buttons = λ h k flat none button.
          let goes = meant.buttons h.state k flat none button in (
            goes.0,
            goes.1,
            fit h (device.Press k) ∙ goes.2,
          );
      held = λ h dev some. rw (fit h dev) (meant.held h.state dev some);
      mode_keys = λ h k key. rw (fit h (device.Press k)) (meant.mode_keys h.state k key);
      live = λ h acts dev live.
          let lives = c.live_sessions_stay.ensures.steps h.state (steps_of h acts) live (go.steps h acts) in
          rw (fit (after_acts h acts) dev)
          (c.live_sessions_stay.ensures.told (after_acts h acts).state dev (rw (go.state h acts) lives));
      receiver = λ h acts seat k live first.
          rw (go.state h acts) (along.receiver h.state (steps_of h acts) seat k live first (go.steps h acts));
      xray = λ h acts dev first mode.
          rw (fit (after_acts h acts) dev, go.state h acts)
          (along.xray h.state (steps_of h acts) dev first (rw (go.state h acts) at mode));
      kill = λ h acts dev first mode.
          rw (fit (after_acts h acts) dev, go.state h acts)
          (along.kill h.state (steps_of h acts) dev first (rw (go.state h acts) at mode));
    }
