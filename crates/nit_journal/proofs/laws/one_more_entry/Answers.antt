use Rattle.nit_journal.proofs.Lemmas.{[], legal_more, next_agrees, replay_more}
use Rattle.nit_journal.proofs.laws.one_more_entry.Goals as goal

pub returns : goal.returns
returns c =
    record {
      replayed = replay_more;
      legal = legal_more;
      agrees = λ s taken journal e. next_agrees s taken journal e [];
    }
