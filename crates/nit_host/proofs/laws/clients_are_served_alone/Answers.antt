use Rattle.nit_host.proofs.Lemmas.{steps_of}
use Rattle.nit_host.proofs.laws.clients_are_served_alone.Goals as goal

pub returns : goal.returns
returns c = record {
  alone = λ h acts seat many there. c.seats_stand_alone.ensures.replies h.state (steps_of h acts) seat many
      (c.hosts_go_by_steps.ensures.steps h acts) there;
  pressed = λ h acts seat k before rest live first is.
      c.releases_follow_presses_since_opening.ensures h.state (steps_of h acts) seat k before rest live first
      (c.hosts_go_by_steps.ensures.steps h acts) is;
  live = λ h acts live.
      rw (c.hosts_go_by_steps.ensures.state h acts)
      (c.live_sessions_stay.ensures.steps h.state (steps_of h acts) live (c.hosts_go_by_steps.ensures.steps h acts));
}
