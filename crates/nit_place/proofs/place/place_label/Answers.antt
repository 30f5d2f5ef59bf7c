use Rattle.nit_place.proofs.Lemmas.{label_found}
use Rattle.nit_place.proofs.place.place_label.Goals as goal

pub returns-clause-place : goal.returns-clause-place
returns-clause-place c =
    λ s there.
    let S = c.args.stack.now in
    (label_found S.width S.height S.bar S.views c.args.v.0 s c.views_in_front.ensures.standing.names there
    c.args.w c.args.h c.requires.width.0 c.requires.height.0 _ _ c.search.result
    c.views_in_front.ensures.count (c.area-area.ensures.area s there) c.search.ensures).0

pub returns-clause-edges : goal.returns-clause-edges
returns-clause-edges c =
    λ s there.
    let S = c.args.stack.now in
    (label_found S.width S.height S.bar S.views c.args.v.0 s c.views_in_front.ensures.standing.names there
    c.args.w c.args.h c.requires.width.0 c.requires.height.0 _ _ c.search.result
    c.views_in_front.ensures.count (c.area-area.ensures.area s there) c.search.ensures).1
