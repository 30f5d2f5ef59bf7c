use Rattle.nit_config.proofs.Lemmas.{on_members, place_rows, ◌∙◌}
use Rattle.nit_config.proofs.keys.has_unknown_key.Goals as goal

pub returns : goal.returns
returns c = c.some_is_unknown.ensures ∙ on_members (place_rows c.args.place) c.args.table.now.entries
