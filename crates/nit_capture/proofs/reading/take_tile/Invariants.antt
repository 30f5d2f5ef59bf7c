use Rattle.std.proofs.Common.{◌-◌, ◌≡◌, ◌⊎◌}
use Rattle.nit_capture.proofs.Lemmas.{IsPicture, IsWord, area, pixels_at, tile_at}
use Rattle.nit_capture.proofs.reading.take_tile.Given as goal

abbrev pub invariant-loop-pixel : goal.invariant-loop-pixel
invariant-loop-pixel l = record {
  read : tile_at l.tile.grid.width l.tile.grid.height l.tile.number l.fn.frame l.fn.bytes
      ≡ pixels_at l.tile.grid.width l.tile.number
      (area l.tile.grid.width l.tile.grid.height l.tile.number - l.pixel) l.pixel l.more l.word
      l.new l.frame l.rest;
  picture : IsPicture l.tile.grid.width l.tile.grid.height l.frame;
  word : (l.more ≡ 0) ⊎ IsWord l.word;
}
