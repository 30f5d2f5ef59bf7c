use Rattle.nit_journal.proofs.Lemmas.{seat}
use Rattle.nit_journal.proofs.laws.seats_stand_alone.Goals as goal

pub returns : goal.returns
returns c =
    record {
      replies = λ s steps x each are lt. (seat s steps x each are lt).1.1.0;
      machine = λ s steps x each are lt. (seat s steps x each are lt).1.1.1;
    }
