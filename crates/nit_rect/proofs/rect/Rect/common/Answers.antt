use Rattle.nit_rect.proofs.Lemmas.{covers_both}
use Rattle.nit_rect.proofs.rect.Rect.common.Goals as goal

pub returns : goal.returns
returns c = covers_both _ _ _ _ _ _
    (λ at. rw (c.columns.ensures.from, c.columns.ensures.long, c.columns-2.ensures.from, c.columns-2.ensures.long) at
    (c.meet-columns.ensures at))
    (λ at. rw (c.rows.ensures.from, c.rows.ensures.long, c.rows-2.ensures.from, c.rows-2.ensures.long) at
    (c.meet-rows.ensures at))
