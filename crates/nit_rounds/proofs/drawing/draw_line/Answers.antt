use Rattle.nit_rounds.proofs.Lemmas.{Sight, after_stroke, ap, drawn_but, fits, line_here, no_stages}
use Rattle.nit_rounds.proofs.Lemmas.{nothing_drawn, painted_to, step_there, still_fits, sym}
use Rattle.nit_rounds.proofs.drawing.draw_line.Goals as goal

pub stroke-requires-clause-before : goal.stroke-requires-clause-before
stroke-requires-clause-before c = (_, painted_to c.buffer_within_table.ensures.words c.requires.draw)

pub stroke-requires-clause-next : goal.stroke-requires-clause-next
stroke-requires-clause-next c =
    let long = c.buffer_within_table.ensures.words in
    (_, painted_to long c.requires.draw, no_stages long c.requires.draw _)

pub add-requires-clause-earlier : goal.add-requires-clause-earlier
add-requires-clause-earlier c =
    let long = c.buffer_within_table.ensures.words in
    let drawn = c.stroke.ensures.sight _ (painted_to long c.requires.draw) in
    still_fits long c.requires.draw _ (sym (ap (λ (g : Sight). g.size) drawn))

pub returns-clause-drawn : goal.returns-clause-drawn
returns-clause-drawn c =
    let long = c.buffer_within_table.ensures.words in
    record {
      own = after_stroke long c.requires.draw _ (c.stroke.ensures.sight _ (painted_to long c.requires.draw));
      behind = c.add.ensures.behind;
    }

pub add-requires-clause-later : goal.add-requires-clause-later
add-requires-clause-later c =
    let laws = c.buffer_within_table.ensures in
    let draw = c.requires.draw in
    let here = line_here _ _ _ _ c.lines-2.ensures.value draw.line c.index-lines-line-2.is in
    let step = step_there laws.words draw c.step_of_a_line.ensures.step c.steps.result.now _ c.index-lines-line-2.result
    c.steps.ensures here in
    let now = after_stroke laws.words draw _ (c.stroke.ensures.sight _ (painted_to laws.words draw)) in
    fits laws.words draw laws.buffer laws.wide laws.tall c.index-lines-line-2.result _ _ _ step
    c.area_set-area.ensures.inside.0 c.area_set-area.ensures.inside.1 now

pub add-requires-clause-but : goal.add-requires-clause-but
add-requires-clause-but c =
    let long = c.buffer_within_table.ensures.words in
    let draw = c.requires.draw in
    let here = line_here _ _ _ _ c.lines-2.ensures.value draw.line c.index-lines-line-2.is in
    let step = step_there long draw c.step_of_a_line.ensures.step c.steps.result.now _ c.index-lines-line-2.result
    c.steps.ensures here in
    let now = after_stroke long draw _ (c.stroke.ensures.sight _ (painted_to long draw)) in
    drawn_but long draw c.other_places_stay.ensures c.index-lines-line-2.result _ _ _ here step
    c.area_set-area.ensures.places now

pub returns-then-not-may_draw-clause-drawn : goal.returns-then-not-may_draw-clause-drawn
returns-then-not-may_draw-clause-drawn c =
    let here = line_here _ _ _ _ c.lines.ensures.value c.requires.draw.line c.index-lines-line.is in
    record {
      own = nothing_drawn c.buffer_within_table.ensures.words c.requires.draw c.other_places_stay.ensures
          c.index-lines-line.result here (c.may_draw.ensures c.if-not-may_draw.true);
      behind = c.requires.draw.behind;
    }
