-- A map's look-up finds the member of the table's data.
use Rattle.nit_config.proofs.Lemmas.{table_get}
use Rattle.nit_config.proofs.tree.find.Goals as goal

pub returns : goal.returns
returns c = table_get c.get.result c.args.key.now c.args.table.now.entries c.get.ensures.value
