use Rattle.nit_repaint.proofs.Lemmas.{arith, length, nat_tests, nothing_set, one_shown, pixel, refl}
use Rattle.nit_repaint.proofs.Lemmas.{set_same, shown_at, ◌∙◌}
use Rattle.nit_repaint.proofs.showing.show_to_come.Goals as goal

pub pieces-init : goal.pieces-init
pieces-init c = record {
  fits = c.requires.fits;
  room = refl;
  less = λ p. omega arith;
  shown = nothing_set _ _ _ _ (λ k l. grind (arith, nat_tests));
}

pub overlay_piece-requires-clause-words : goal.overlay_piece-requires-clause-words
overlay_piece-requires-clause-words c =
    assumption (c.pieces.invariant.shown.count ∙ c.requires.look.frame ∙ c.requires.look.pixels, c.requires.look)

pub pieces-preserved : goal.pieces-preserved
pieces-preserved c =
    let s = c.args.lettered.now.look.stack.now in
    let n = length c.args.raw.now in
    let i = c.pieces.invariant in
    let e = c.in-Some.ensures in
    record {
      fits = e.fits;
      room = e.room ∙ i.room;
      less = λ p. let was = i.less p in let now = e.count p in omega arith;
      shown = one_shown s n c.args.cutter.now c.pieces.cutter c.next.new.self c.in-Some.piece.rect
          (shown_at c.args.lettered.now c.args.raw.now) (shown_at c.args.lettered.now c.args.raw.now) c.args.frame.now
          c.pieces.frame c.overlay_piece.new.out
          i.less e.count e.came (λ k out. refl) i.shown
          (record {
            words = λ k l. c.overlay_piece.ensures.pixels k (rw c.requires.look.pixels at l);
            count = c.overlay_piece.ensures.count;
          });
    }

pub returns-clause-shown : goal.returns-clause-shown
returns-clause-shown c =
    set_same _ _ _ _ _ _ (λ k l. rw (c.in_default.ensures.came (pixel c.args.lettered.now.look.stack.now.width k)))
    c.pieces.invariant.shown
