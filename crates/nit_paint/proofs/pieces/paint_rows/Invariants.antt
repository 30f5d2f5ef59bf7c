use Rattle.std.proofs.Common.{length, pos, ℕ, ◌+◌, ◌<◌, ◌≡◌, ◌+ℤ◌}
use Rattle.nit_paint.proofs.Lemmas.{PixelSource, Repainted, among, black_or_word, in_rows, index_at}
use Rattle.nit_paint.proofs.Lemmas.{reached, row_at}
use Rattle.nit_paint.proofs.pieces.paint_rows.Given as goal

abbrev pub invariant-rows : goal.invariant-rows
invariant-rows g l = record {
  painted : (source : ℕ → PixelSource)
      → ((j i : ℕ) → j < l.block.tall → i < l.block.wide
      → source (row_at l.block j + i)
      ≡ black_or_word l.sid (index_at l.size.0 (reached l.reach i) (among (l.fn.row +ℤ pos j) l.size.1)))
      → Repainted source (in_rows l.block l.j) (length l.initial.raw)
      (g.L.Glasses.sights l.initial.glasses) (g.L.Glasses.sights l.glasses) l.initial.raw l.raw;
  size : (g.L.Glasses.sights l.glasses l.sid).size ≡ (g.L.Glasses.sights l.initial.glasses l.sid).size;
  rest : g.L.Glasses.rest l.glasses ≡ g.L.Glasses.rest l.initial.glasses;
}
