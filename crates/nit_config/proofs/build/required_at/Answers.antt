use Rattle.nit_config.proofs.Lemmas.{arith, at_least_one, integer_at, integer_there, pos}
use Rattle.nit_config.proofs.Lemmas.{table_view, wider}
use Rattle.nit_config.proofs.build.required_at.Goals as goal

pub number_at-requires : goal.number_at-requires
number_at-requires c = wider (integer_at c.args.key.now (pos 0) (table_view c.args.table.now)) 1 8388608 0 8388608
    c.requires (omega arith) (omega arith)

pub returns : goal.returns
returns c = integer_there _ _ c.number_at.ensures (at_least_one 8388608 _ _ c.requires c.number_at.ensures)
