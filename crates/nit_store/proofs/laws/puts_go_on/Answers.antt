use Rattle.nit_store.proofs.Lemmas.{none_behind, puts_both, puts_more}
use Rattle.nit_store.proofs.laws.puts_go_on.Goals as goal

pub returns-clause-next : goal.returns-clause-next
returns-clause-next c = puts_more

pub returns-clause-both : goal.returns-clause-both
returns-clause-both c = puts_both

pub returns-clause-stopped : goal.returns-clause-stopped
returns-clause-stopped c = none_behind
