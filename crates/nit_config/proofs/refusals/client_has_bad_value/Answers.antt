use Rattle.nit_config.proofs.Lemmas.{has_bad_value, on_clients, ◌∙◌}
use Rattle.nit_config.proofs.refusals.client_has_bad_value.Goals as goal

pub returns : goal.returns
returns c = c.some_has_bad_value.ensures ∙ on_clients _ _ c.elements_of.ensures has_bad_value
