use Rattle.nit_host.proofs.Lemmas.{after_acts, is_former, known_turns, no_call, no_refresh}
use Rattle.nit_host.proofs.Lemmas.{no_restack, stays_present}
use Rattle.nit_host.proofs.laws.former_clients_reach_nobody.Goals as goal

pub returns : goal.returns
returns c = record {
  calls = λ h client asked none. no_call h client none asked;
  refreshes = λ h client x y width height words none. no_refresh h client none x y width height words;
  restacks = λ h side client view none. no_restack h client none side view;
  present = λ first acts rest seat label is few takes.
      stays_present (after_acts first acts) seat label takes (known_turns first acts seat is few) rest;
  former = λ first acts rest seat label is few takes.
      is_former (after_acts first acts) seat label takes (known_turns first acts seat is few) rest;
}
