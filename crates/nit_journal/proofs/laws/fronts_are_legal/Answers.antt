use Rattle.nit_journal.proofs.Lemmas.{agrees_behind, first_state, front_legal, front_open}
use Rattle.nit_journal.proofs.laws.fronts_are_legal.Goals as goal

pub returns : goal.returns
returns c =
    record {
      legal = λ config front rest. front_legal (first_state config) 0 front rest;
      unended = λ config front e rest. front_open (first_state config) 0 front e rest;
      agrees = agrees_behind;
    }
