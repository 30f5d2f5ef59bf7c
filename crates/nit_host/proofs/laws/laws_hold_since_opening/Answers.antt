use Rattle.nit_host.proofs.Lemmas.{first_live, first_many, first_quiet}
use Rattle.nit_host.proofs.laws.laws_hold_since_opening.Goals as goal

pub returns : goal.returns
returns c =
    let alone = c.clients_are_served_alone.ensures in
    let meant = c.input_goes_where_it_is_meant.ensures in
    let lives = first_live c.live_sessions_stay.ensures.vacant c.live_sessions_stay.ensures.first in
    record {
      alone = λ h acts seat is. alone.alone h acts seat (first_many h is);
      pressed = λ h acts seat k before rest is. alone.pressed h acts seat k before rest (lives h is) (first_quiet h is);
      live = λ h acts dev is. meant.live h acts dev (lives h is);
      known = λ h acts is. alone.live h acts (lives h is);
      receiver = λ h acts seat k is. meant.receiver h acts seat k (lives h is) (first_quiet h is);
      xray = λ h acts dev is. meant.xray h acts dev (first_quiet h is);
      kill = λ h acts dev is. meant.kill h acts dev (first_quiet h is);
    }
