use Rattle.std.proofs.Common.{length, ℕ, ◌+◌, ◌<◌, ◌≡◌}
use Rattle.nit_paint.proofs.Lemmas.{Bare, PixelSource, Repainted, Sight, in_rows, row_at}
use Rattle.nit_paint.proofs.pieces.bare_rows.Given as goal

abbrev pub invariant-rows : goal.invariant-rows
invariant-rows l =
    (source : ℕ → PixelSource) (glasses : ℕ → Sight)
    → ((j i : ℕ) → j < l.block.tall → i < l.block.wide → source (row_at l.block j + i) ≡ Bare)
    → Repainted source (in_rows l.block l.j) (length l.initial.raw) glasses glasses l.initial.raw l.raw
