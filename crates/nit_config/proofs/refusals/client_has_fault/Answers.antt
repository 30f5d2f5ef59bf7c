use Rattle.nit_config.proofs.Lemmas.{client_rows, has_fault, on_clients, ◌∙◌}
use Rattle.nit_config.proofs.refusals.client_has_fault.Goals as goal

pub returns : goal.returns
returns c = c.some_has_fault.ensures ∙ on_clients _ _ c.elements_of.ensures (has_fault c.args.fault client_rows)
