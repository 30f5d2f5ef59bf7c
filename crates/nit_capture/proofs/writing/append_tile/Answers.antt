use Rattle.nit_capture.proofs.Lemmas.{appends_behind, arith, refl, tile_fits, tiles_few, two_bytes}
use Rattle.nit_capture.specs.Film.{tile_bytes}
use Rattle.nit_capture.proofs.writing.append_tile.Goals as goal

pub overflow_cast-tile-2 : goal.overflow_cast-tile-2
overflow_cast-tile-2 c = grind (arith, tiles_few)

pub write_runs-end-requires-clause-words : goal.write_runs-end-requires-clause-words
write_runs-end-requires-clause-words c = grind (arith, tile_fits)

pub returns : goal.returns
unfolding tile_bytes
returns c =
    let text = rw (c.area.ensures.value, c.tile_words-words.ensures) at c.write_runs-end.ensures.value in
    appends_behind c.put-2.result _ (two_bytes c.args.tile.number) _ _ _ _
    (rw text at c.put-2.ensures) c.in_ok-put.ensures
    refl
