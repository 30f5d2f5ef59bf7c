use Rattle.nit_capture.proofs.Lemmas.{one_record}
use Rattle.nit_capture.proofs.laws.record_is_one.Goals as goal

pub returns : goal.returns
returns c = λ w h before bytes a b rest after s p. one_record w h before bytes a b rest after s.some_columns p.size
