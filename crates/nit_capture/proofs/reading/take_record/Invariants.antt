use Rattle.std.proofs.Common.{◌-◌, ◌≡◌}
use Rattle.nit_capture.proofs.Lemmas.{IsPicture, record_at, tile_count, tiles_at}
use Rattle.nit_capture.proofs.reading.take_record.Given as goal

abbrev pub invariant-loop-number : goal.invariant-loop-number
invariant-loop-number l = record {
  read : record_at l.grid.width l.grid.height l.fn.frame l.fn.bytes
      ≡ tiles_at l.grid.width l.grid.height (tile_count l.grid.width l.grid.height - l.number) l.number l.left l.frame
      l.rest;
  picture : IsPicture l.grid.width l.grid.height l.frame;
}
