use Rattle.nit_config.proofs.Lemmas.{bytes_eq, on_rows, ◌∙◌}
use Rattle.nit_config.specs.Keys.{is_known_key}
use Rattle.nit_config.proofs.keys.is_named.Goals as goal

pub returns : goal.returns
unfolding is_known_key
returns c = c.some_has_name.ensures ∙ on_rows (λ r. bytes_eq r.name c.args.name.now) _ _ c.keys.ensures
