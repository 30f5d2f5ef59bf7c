use Rattle.nit_config.proofs.Lemmas.{is_lacking, on_rows, table_view, ◌∙◌}
use Rattle.nit_config.specs.Keys.{lacks_key}
use Rattle.nit_config.proofs.keys.lacks_key.Goals as goal

pub returns : goal.returns
unfolding lacks_key
returns c = c.some_is_lacking.ensures ∙ on_rows (λ r. is_lacking r (table_view c.args.table.now)) _ _ c.keys.ensures
