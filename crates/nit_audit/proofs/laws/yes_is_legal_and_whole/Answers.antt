use Rattle.nit_audit.proofs.Lemmas.{good, whole}
use Rattle.nit_audit.proofs.laws.yes_is_legal_and_whole.Goals as goal

pub returns : goal.returns
returns c =
    record {
      says = λ config clients user entries yes_. (yes_.0.legal, whole config clients user entries yes_.0 yes_.1);
      comes = λ config clients user entries legal w. (good config clients user entries legal w, w.ends);
    }
