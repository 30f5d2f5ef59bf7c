use Rattle.nit_paint.proofs.Lemmas.{loaded_by, skipped}
use Rattle.nit_paint.proofs.laws.one_more_pixel.Goals as goal

pub returns-clause-skipped : goal.returns-clause-skipped
returns-clause-skipped c = skipped

pub returns-clause-loaded : goal.returns-clause-loaded
returns-clause-loaded c = loaded_by
