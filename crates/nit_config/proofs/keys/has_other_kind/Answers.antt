use Rattle.nit_config.proofs.Lemmas.{is_of_other_kind, on_rows, table_view, ◌∙◌}
use Rattle.nit_config.specs.Keys.{has_other_kind}
use Rattle.nit_config.proofs.keys.has_other_kind.Goals as goal

pub returns : goal.returns
unfolding has_other_kind
returns c = c.some_has_other_kind.ensures
    ∙ on_rows (λ r. is_of_other_kind r (table_view c.args.table.now)) _ _ c.keys.ensures
