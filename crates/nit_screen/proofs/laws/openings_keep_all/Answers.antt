use Rattle.nit_screen.proofs.Lemmas.{opens_below, opens_raw, opens_sources}
use Rattle.nit_screen.proofs.laws.openings_keep_all.Goals as goal

pub returns : goal.returns
returns c = record {
  sources = λ s sid label p live over. opens_sources s sid over live label p;
  raw = λ s sid label raw live over all. opens_raw s sid over live label raw all;
  below = λ s sid label live over all. opens_below s sid over live label all;
}
