use Rattle.nit_repaint.proofs.Lemmas.{all_came, ap, arith, length, none_came, nothing_painted}
use Rattle.nit_repaint.proofs.Lemmas.{piece_painted, refl, still_can, with_items_is, ◌∙◌}
use Rattle.nit_repaint.proofs.painter.Painter.paint_to_come.Goals as goal

pub pieces-init : goal.pieces-init
pieces-init g c = record {
  fits = c.requires.fits;
  less = λ p. omega arith;
  marked = nothing_painted (none_came c.args.stack.now c.args.self.now.cutter);
  rest = refl;
}

pub paint_piece-requires-clause-piece : goal.paint_piece-requires-clause-piece
paint_piece-requires-clause-piece g c =
    let e = c.in-Some.ensures in
    c.pieces_of_owners.ensures c.args.stack.now c.in-Some.piece
    (rw c.size-screen.ensures.size at c.size-screen.ensures.range) e.pixels e.on_screen e.owner

pub paint_piece-requires-clause-held : goal.paint_piece-requires-clause-held
paint_piece-requires-clause-held g c =
    (still_can c.args.stack.now c.pieces.invariant.marked c.requires.painter).held

pub pieces-preserved : goal.pieces-preserved
pieces-preserved g c =
    let i = c.pieces.invariant in
    let e = c.in-Some.ensures in
    let p' = c.paint_piece.ensures in
    let raw = c.as_mut_slice.ensures in
    let now = with_items_is c.pieces.self.raw c.paint_piece.new.raw (p'.count ∙ raw.len) in
    record {
      fits = e.fits;
      less = λ p. let was = i.less p in let now = e.count p in omega arith;
      marked = piece_painted c.args.stack.now c.next.new.self c.in-Some.piece.rect e.room c.requires.fits.once i.less e.count e.came
          i.marked (record {
            painted = rw now (rw raw.value at p'.painted);
            kept = record { count = ap length now ∙ p'.count ∙ ap length raw.value; room = refl };
          });
      rest = p'.rest ∙ i.rest;
    }

pub returns-clause-painted : goal.returns-clause-painted
returns-clause-painted g c =
    let i = c.pieces.invariant.marked in
    record {
      painted = all_came c.args.stack.now c.args.self.now.cutter c.pieces.self.cutter c.in_default.ensures.came
          i.painted;
      kept = record { count = i.kept.count; room = c.in_default.ensures.room ∙ i.kept.room };
    }
