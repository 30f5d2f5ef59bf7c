use Rattle.nit_session.proofs.Lemmas.{filter_same, rules}
use Rattle.nit_session.proofs.machine.remove.Goals as goal

pub returns-clause-items : goal.returns-clause-items
returns-clause-items c = filter_same _ _ _ (λ x b f' k. search rules) _ _ c.retain.ensures.filtered
