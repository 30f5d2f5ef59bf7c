use Rattle.std.proofs.Common.{length, ◌++◌, ◌≡◌, ◌≤◌}
use Rattle.nit_capture.proofs.Lemmas.{differs, filter, flat_map, range_with_len, tile_bytes}
use Rattle.nit_capture.proofs.writing.append_tiles.Given as goal

abbrev pub invariant-loop-number : goal.invariant-loop-number
invariant-loop-number l = record {
  bytes : l.out.items ≡ l.fn.out.items ++ flat_map (tile_bytes l.grid.width l.grid.height l.now)
      (filter (differs l.grid.width l.grid.height l.before l.now) (range_with_len 0 l.number));
  count : l.count ≡ length (filter (differs l.grid.width l.grid.height l.before l.now) (range_with_len 0 l.number));
  few : l.count ≤ l.number;
}
