use Rattle.nit_journal.proofs.Lemmas.{buttons_go, first_state, goes_down, held_goes, in_kill}
use Rattle.nit_journal.proofs.Lemmas.{in_xray, keys_go, mode_keys_tell, paired_whole, quiet_along}
use Rattle.nit_journal.proofs.Lemmas.{quiet_first, replay}
use Rattle.nit_journal.proofs.laws.input_goes_where_it_is_meant.Goals as goal

pub returns : goal.returns
returns c =
    record {
      keys = keys_go;
      buttons = buttons_go;
      held = held_goes;
      receiver = λ config journal x k legal receives held.
          goes_down x k (replay config journal) journal (paired_whole x k config journal legal) (receives, held);
      mode_keys = mode_keys_tell;
      xray = λ config journal dev.
          in_xray (replay config journal) dev (quiet_along (first_state config) journal quiet_first);
      kill = λ config journal dev.
          in_kill (replay config journal) dev (quiet_along (first_state config) journal quiet_first);
    }
