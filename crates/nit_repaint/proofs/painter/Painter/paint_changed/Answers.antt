use Rattle.nit_repaint.proofs.Lemmas.{Point, comes_as, slot_owns_either, ◌∙◌}
use Rattle.nit_repaint.proofs.painter.Painter.paint_changed.Goals as goal

pub returns-clause-painted : goal.returns-clause-painted
returns-clause-painted g c before change =
    comes_as c.args.stack.now c.begin_changed.new.cutter
    (λ (p : Point). slot_owns_either c.args.was.now.view.0 before c.args.stack.now p) c.requires.pixels
    (c.begin_changed.ensures.to_come before change) c.paint_to_come.ensures.painted.painted

pub returns-clause-kept : goal.returns-clause-kept
returns-clause-kept g c =
    let kept = c.paint_to_come.ensures.painted.kept in
    record { count = kept.count; room = kept.room ∙ c.begin_changed.ensures.room }
