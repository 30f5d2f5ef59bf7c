use Rattle.nit_paint.proofs.Lemmas.{arith, filled, places, rules}
use Rattle.nit_paint.proofs.runs.fill_run.Goals as goal

pub returns : goal.returns
returns c = record {
  painted = λ source glasses own.
      filled source c.args.at c.args.count _ c.args.word glasses c.args.raw.now c.fill.new.self (omega arith) c.requires
      (omega (arith, c.fill.ensures.len)) (λ j less. search (rules, places)) own;
}
