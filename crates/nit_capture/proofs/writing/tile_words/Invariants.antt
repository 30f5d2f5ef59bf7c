use Rattle.std.proofs.Common.{length, take, ◌*◌, ◌≡◌}
use Rattle.nit_capture.proofs.Lemmas.{tile_pixels, wide}
use Rattle.nit_capture.proofs.writing.tile_words.Given as goal

abbrev pub invariant-loop-row : goal.invariant-loop-row
invariant-loop-row l = record {
  value : take (l.row * wide l.which.grid.width l.which.number) l.words
      ≡ tile_pixels l.which.grid.width l.picture l.which.number 0 (l.row * wide l.which.grid.width l.which.number);
  size : length l.words ≡ 256;
}
