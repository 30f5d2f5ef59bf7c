use Rattle.nit_damage.proofs.Lemmas.{both_lie, cut_in_four, pixels_of, refl, uncut, wider}
use Rattle.nit_damage.proofs.cutting.cut_out.Goals as goal

pub returns-then-area-eq0-clause-cut : goal.returns-then-area-eq0-clause-cut
returns-then-area-eq0-clause-cut c =
    uncut c.args.at c.args.rect c.args.by c.meet-part.result c.args.jobs.now.items _ c.meet-part.ensures.both
    (rw c.area.ensures at c.if-area-eq0.true) c.put_in.ensures.items

pub rest_of-rest-requires-clause-screen : goal.rest_of-rest-requires-clause-screen
rest_of-rest-requires-clause-screen c =
    let some = pixels_of c.meet-part.result (rw c.area.ensures at c.if-area-eq0.false) in
    c.requires.screen (wider c.meet-part.result c.args.rect some
    (both_lie c.args.rect c.args.by c.meet-part.result c.meet-part.ensures.both))

pub rest_of-rest-requires-clause-inside : goal.rest_of-rest-requires-clause-inside
rest_of-rest-requires-clause-inside c = both_lie c.args.rect c.args.by c.meet-part.result c.meet-part.ensures.both

pub returns-clause-cut : goal.returns-clause-cut
returns-clause-cut c =
    let some = pixels_of c.meet-part.result (rw c.area.ensures at c.if-area-eq0.false) in
    cut_in_four c.args.at c.args.rect c.args.by c.meet-part.result c.rest_of-rest.result c.args.jobs.now.items _
    c.meet-part.ensures.both some c.rest_of-rest.ensures
    (rw (c.put_in-5.ensures.items, c.put_in-4.ensures.items, c.put_in-3.ensures.items, c.put_in-2.ensures.items) refl)
