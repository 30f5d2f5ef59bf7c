use Rattle.std.proofs.Common.{slice_index, ℕ, ◌*◌, ◌+◌, ◌<◌, ◌≡◌, ◌≢◌}
use Rattle.nit_look.proofs.putting.put_part.Given as goal

abbrev pub invariant-rows : goal.invariant-rows
invariant-rows l = record {
  put : (row column : ℕ) → row < l.row → column < l.wide → slice_index l.out (row * l.pitch + column)
      ≡ slice_index l.frame ((l.part.top + row) * l.width + (l.part.left + column));
  kept : (k : ℕ) → ((row column : ℕ) → row < l.row → column < l.wide → k ≢ row * l.pitch + column)
      → slice_index l.out k ≡ slice_index l.fn.out k;
}
