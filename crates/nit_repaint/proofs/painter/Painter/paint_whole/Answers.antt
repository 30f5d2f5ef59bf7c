use Rattle.nit_repaint.proofs.Lemmas.{comes_as, true, ◌∙◌}
use Rattle.nit_repaint.proofs.painter.Painter.paint_whole.Goals as goal

pub returns-clause-painted : goal.returns-clause-painted
returns-clause-painted g c =
    let e = c.paint_to_come.ensures.painted in
    record {
      painted = comes_as c.args.stack.now c.begin_all.new.self (λ p. true) c.requires.pixels
          c.begin_all.ensures.to_come e.painted;
      kept = record { count = e.kept.count; room = e.kept.room ∙ c.begin_all.ensures.room };
    }
