use Rattle.nit_paint.proofs.Lemmas.{arith, bare_told, ints, repainted_words, rows_fit}
use Rattle.nit_paint.proofs.Lemmas.{seat_stands, view_told, whole_piece}
use Rattle.nit_paint.proofs.pieces.paint_piece.Goals as goal

-- ---- where no view owns it

pub bare_rows-requires : goal.bare_rows-requires
bare_rows-requires g c =
    let b = c.new-block.result in
    let width = rw c.size-width.ensures.size at c.new-block.ensures.width in
    rw c.requires.raw (rows_fit b c.requires.piece c.new-block.ensures.rectangle width b.across)

pub returns-in_default-clause-painted : goal.returns-in_default-clause-painted
returns-in_default-clause-painted g c =
    let b = c.new-block.result in
    let is = c.new-block.ensures.rectangle in
    let width = rw c.size-width.ensures.size at c.new-block.ensures.width in
    whole_piece _ b _ _ _ _ _ _ _ is width
    (c.bare_rows.ensures _ _ (bare_told b c.requires.piece is width b.across c.in_default.is))

pub returns-in_default-clause-words : goal.returns-in_default-clause-words
returns-in_default-clause-words g c = repainted_words _ _ _ _ _ _ _ c.bare_rows.auto.raw
    (returns-in_default-clause-painted g c)

-- ---- where a view owns it

pub buffer-w-requires : goal.buffer-w-requires
buffer-w-requires g c = (seat_stands c.view-view.ensures.standing c.view-view.ensures.value).session

pub buffer_place-column-requires-clause-offset : goal.buffer_place-column-requires-clause-offset
buffer_place-column-requires-clause-offset g c =
    let column = (seat_stands c.view-view.ensures.standing c.view-view.ensures.value).column in
    (omega (arith, ints), omega (arith, ints))

pub buffer_place-row-requires-clause-offset : goal.buffer_place-row-requires-clause-offset
buffer_place-row-requires-clause-offset g c =
    let row = (seat_stands c.view-view.ensures.standing c.view-view.ensures.value).row in
    (omega (arith, ints), omega (arith, ints))

pub paint_rows-requires-clause-pixels : goal.paint_rows-requires-clause-pixels
paint_rows-requires-clause-pixels g c =
    let b = c.new-block.result in
    let width = rw c.size-width.ensures.size at c.new-block.ensures.width in
    rw c.requires.raw (rows_fit b c.requires.piece c.new-block.ensures.rectangle width b.across)

pub returns-clause-painted : goal.returns-clause-painted
returns-clause-painted g c =
    let b = c.new-block.result in
    let is = c.new-block.ensures.rectangle in
    let width = rw c.size-width.ensures.size at c.new-block.ensures.width in
    whole_piece _ b _ _ _ _ _ _ _ is width
    (c.paint_rows.ensures.painted _
    (view_told b c.requires.piece is width b.across c.new-reach.result c.in-Some.is c.view-view.ensures.standing
    c.view-view.ensures.value c.buffer-w.ensures.size (omega (arith, ints)) (omega (arith, ints))
    c.new-reach.ensures.places))

pub returns-clause-words : goal.returns-clause-words
returns-clause-words g c = repainted_words _ _ _ _ _ _ _ c.paint_rows.auto.raw (returns-clause-painted g c)
