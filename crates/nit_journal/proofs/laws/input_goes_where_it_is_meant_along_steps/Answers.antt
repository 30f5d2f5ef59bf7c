use Rattle.nit_journal.proofs.Lemmas.{after_steps, goes_down, in_kill, in_xray, quiet_first}
use Rattle.nit_journal.proofs.Lemmas.{quiet_steps, since_begun, since_opening}
use Rattle.nit_journal.proofs.laws.input_goes_where_it_is_meant_along_steps.Goals as goal

pub returns : goal.returns
returns c =
    record {
      receiver = λ s steps x k live first are receives held.
          goes_down x k (after_steps s steps) (since_opening x steps) (since_begun s steps x k live first are)
          (receives, held);
      xray = λ s steps dev first. in_xray (after_steps s steps) dev (quiet_steps s steps (rw first quiet_first));
      kill = λ s steps dev first. in_kill (after_steps s steps) dev (quiet_steps s steps (rw first quiet_first));
    }
