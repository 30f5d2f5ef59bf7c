use Rattle.std.proofs.Common.{ap, arith, refl, sym, ◌*◌, ◌∙◌, ◌≡◌}
use Rattle.nit_paint.proofs.Lemmas.{among, ints, option_map, row_told, rows_more, rows_none}
use Rattle.nit_paint.proofs.Lemmas.{rows_within, run_of_rows, to_z-of_z, words_shown}
use mir.Syntax.{w32}
use mir.Val.{of_z, to_z}
use Rattle.nit_paint.proofs.pieces.paint_rows.Goals as goal

pub rows-init : goal.rows-init
rows-init g c = record {
  painted = λ source told. rows_none source c.args.block.now _ _ _;
  size = refl;
  rest = refl;
}

pub rows-preserved : goal.rows-preserved
rows-preserved g c =
    let i = c.rows.invariant in
    let e = c.paint_row.ensures in
    record {
      painted = λ source told.
          let start = c.row_start-start.ensures.start
          ∙ ap (λ z. option_map (λ y. y * c.args.size.0) (among z c.args.size.1)) (omega (arith, ints)) in
          rows_more source c.args.block.now c.rows.j _ _ _ _ _ _ _ _ _ _ (omega arith) (omega arith) refl
          c.requires.long c.rows.auto.raw (i.painted source told)
          (e.painted source (row_told source _ c.args.sid c.args.size.0 c.args.block.now.wide c.args.reach.now _ _
          start c.requires.long (λ k l. told c.rows.j k c.rows-test.true l)));
      size = e.size ∙ i.size;
      rest = e.rest ∙ i.rest;
    }

pub returns-clause-painted : goal.returns-clause-painted
returns-clause-painted g c source told =
    let same : c.args.row ≡ to_z w32 (of_z w32 c.args.row) = sym (to_z-of_z w32 c.args.row c.ranges.row) in
    let done : c.rows.j ≡ c.args.block.now.tall = omega arith in
    rw done at (c.rows.invariant.painted source (λ j i l m. rw same at (told j i l m)))

-- ---- whole rows

pub load_run-requires-clause-words : goal.load_run-requires-clause-words
load_run-requires-clause-words g c =
    let shows = c.shows_whole_rows.ensures.0 c.if-shows_whole_rows.true in
    rows_within _ _ _ _ c.args.size.1 _ shows.0.1 (omega (arith, ints)) c.requires.words

pub returns-then-shows_whole_rows-clause-painted : goal.returns-then-shows_whole_rows-clause-painted
returns-then-shows_whole_rows-clause-painted g c source told =
    let b = c.args.block.now in
    let shows = c.shows_whole_rows.ensures.0 c.if-shows_whole_rows.true in
    let left : b.left ≡ 0 = omega arith in
    let wide : b.wide ≡ b.width = omega arith in
    let same : c.args.row ≡ to_z w32 (of_z w32 c.args.row) = sym (to_z-of_z w32 c.args.row c.ranges.row) in
    run_of_rows b left wide (omega arith) source _ _ _ _ _
    (c.load_run.ensures.painted source
    (words_shown b left wide (omega arith) source c.args.reach.now _ _ c.args.size.0 c.args.size.1 c.args.sid
    c.requires.long c.requires.columns shows (omega (arith, ints)) (λ j i l m. rw same at (told j i l m))))
