use Rattle.nit_audit.proofs.Lemmas.{only_one}
use Rattle.nit_audit.proofs.laws.verdict_is_one.Goals as goal

pub returns : goal.returns
returns c config clients user entries a b h i = only_one config clients user entries a b h i
