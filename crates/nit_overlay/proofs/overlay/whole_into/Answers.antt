use Rattle.std.proofs.Common.{ap, arith, ◌≡◌}
use Rattle.nit_overlay.proofs.Lemmas.{frame, frame_fits, is_frame, is_whole, scenery}
use Rattle.nit_overlay.proofs.overlay.whole_into.Goals as goal

pub returns-clause-frame : goal.returns-clause-frame
returns-clause-frame c =
    is_frame _ c.args.lettered.now c.overlay_area.ensures
    (λ x y lt less. is_whole c.args.lettered.now.look.stack.now.width c.args.lettered.now.look.stack.now.height c.size-width.result.0
    c.size-width.result.1 x y
    (ap (λ size. size.0) c.size-width.ensures.size) (ap (λ size. size.1) c.size-width.ensures.size) lt less)
    (omega arith)

pub returns-clause-words : goal.returns-clause-words
returns-clause-words c =
    let is : c.overlay_area.new.out ≡ frame (scenery c.args.lettered.now) c.args.raw.now = returns-clause-frame c in
    rw is (frame_fits (scenery c.args.lettered.now) c.args.raw.now c.requires.raw c.requires.words)
