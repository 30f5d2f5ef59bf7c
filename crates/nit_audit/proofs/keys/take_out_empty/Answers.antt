use Rattle.nit_audit.proofs.Lemmas.{filter_same, rules}
use Rattle.nit_audit.proofs.keys.take_out_empty.Goals as goal

pub returns : goal.returns
returns c = filter_same _ _ _ (λ x b f' k. search rules) _ _ c.retain.ensures.filtered
