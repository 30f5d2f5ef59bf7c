use Rattle.nit_top.proofs.Lemmas.{apart_of, made_differ, outputs_differ, puts_differ, stand}
use Rattle.nit_top.proofs.laws.names_differ.Goals as goal

pub returns : goal.returns
returns c = record {
  made = made_differ;
  outputs = outputs_differ c.shots_as_replayed.ensures.along c.fronts_are_legal.ensures.legal;
  puts = puts_differ c.shots_as_replayed.ensures.along c.fronts_are_legal.ensures.legal;
  stand = λ files old new different puts. stand files old new (apart_of files different) puts;
}
