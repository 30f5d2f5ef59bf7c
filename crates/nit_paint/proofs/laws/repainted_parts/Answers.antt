use Rattle.nit_paint.proofs.Lemmas.{other_count, repainted_both, repainted_same, repainted_union}
use Rattle.nit_paint.proofs.Lemmas.{repainted_words}
use Rattle.nit_paint.proofs.laws.repainted_parts.Goals as goal

pub returns-clause-both : goal.returns-clause-both
returns-clause-both c = repainted_both

pub returns-clause-union : goal.returns-clause-union
returns-clause-union c = repainted_union

pub returns-clause-count : goal.returns-clause-count
returns-clause-count c = other_count

pub returns-clause-same : goal.returns-clause-same
returns-clause-same c = repainted_same

pub returns-clause-words : goal.returns-clause-words
returns-clause-words c = repainted_words
