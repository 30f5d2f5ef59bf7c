use Rattle.nit_damage.proofs.Lemmas.{CutterModel, IsMoved, ap, lies_below, moved_comes, moved_fits}
use Rattle.nit_damage.proofs.Lemmas.{moved_off, on_screen, place_of, refl, ◌∙◌}
use Rattle.nit_damage.proofs.cutter.Cutter.begin_moved.Goals as goal

pub cut_out-both-requires-clause-screen : goal.cut_out-both-requires-clause-screen
cut_out-both-requires-clause-screen c some =
    on_screen c.args.stack.now c.below_bar-2.result c.rect-rect.ensures.standing some
    (lies_below c.args.stack.now c.args.old c.below_bar-2.result c.below_bar-2.ensures.both)

pub returns : goal.returns
returns c =
    let first = rw c.place_of.ensures.place at (c.self.view_is ∙ c.begin.ensures) in
    let both : IsMoved c.args.stack.now c.rect-rect.result c.args.old c.below_bar.result c.below_bar-2.result
    c.cut_out-both.new.jobs.items c.cut_out-both.result =
    record {
      bar = c.below_bar.ensures.fits;
      now = c.below_bar.ensures.both;
      was = c.below_bar-2.ensures.both;
      cut = rw (ap (λ (d : CutterModel). d.jobs) first) at c.cut_out-both.ensures.cut;
    } in
    let from = ap (λ (d : CutterModel). d.from) first in
    let bar = ap (λ (d : CutterModel). d.bar) first in
    let room = ap (λ (d : CutterModel). d.room) first in
    rw (from, bar, room) (record {
      room = refl;
      fits = moved_fits both (place_of c.args.v.0 c.args.stack.now.views) _ c.requires.room;
      to_come = moved_comes both c.args.v c.args.self.now.room c.rect-rect.ensures.rect;
      off_screen = moved_off both (place_of c.args.v.0 c.args.stack.now.views) c.args.self.now.room;
    })
