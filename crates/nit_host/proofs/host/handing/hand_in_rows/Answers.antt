use Rattle.nit_host.proofs.Lemmas.{Sight, nat_tests, row_fits, row_more, rows_begun, rows_sized}
use Rattle.nit_host.proofs.Lemmas.{told_words}
use Rattle.std.proofs.Common.{ap, arith, sym, ◌∙◌, ◌≡◌}
use Rattle.nit_host.proofs.host.handing.hand_in_rows.Goals as goal

-- as many words as at first
abbrev as_many : (c : goal.After-struct_known-in-rows-1) → c.rows.sheet.sight.size ≡ c.args.sheet.now.sight.size
as_many c =
    rows_sized c.args.width c.args.columns.0 c.args.columns.1 c.args.rows.0 c.rows.row c.args.sheet.now.sight.owner
    c.args.words.now (told_words c.args.sheet.now.sight.words) c.rows.sheet.sight c.rows.invariant.sight
    ∙ sym (ap (λ (s : Sight). s.size) c.requires.sheet.plain)

pub hand_in-requires-clause-places : goal.hand_in-requires-clause-places
hand_in-requires-clause-places c =
    rw (as_many c) (row_fits c.args.width c.args.columns.1 c.rows.row c.args.rows.1 c.args.sheet.now.sight.size
    c.requires.columns.1 c.rows-test.true c.requires.places)

pub hand_in-requires-clause-room : goal.hand_in-requires-clause-room
hand_in-requires-clause-room c = omega (arith, as_many c, c.requires.sheet.room, c.rows.invariant.room)

pub rows-init : goal.rows-init
rows-init c = record {
  sight = rows_begun c.args.width c.args.columns.0 c.args.columns.1 c.args.rows.0 c.args.words.now
      c.args.sheet.now.sight c.requires.sheet.plain;
  room = omega arith;
}

pub rows-preserved : goal.rows-preserved
rows-preserved c = record {
  sight = row_more c.args.width c.args.columns.0 c.args.columns.1 c.args.rows.0 c.rows.row c.args.sheet.now.sight.owner
      c.args.words.now (told_words c.args.sheet.now.sight.words) c.rows.sheet.sight c.hand_in.new.self.sight
      c.requires.columns.0 c.requires.columns.1 c.rows.auto.row c.rows.invariant.sight c.hand_in.ensures.sight;
  room = omega (arith, c.rows.invariant.room, c.hand_in.ensures.room);
}

pub returns : goal.returns
returns c = grind (arith, nat_tests)
