use Rattle.std.proofs.Common.{map, take, ◌*◌, ◌≡◌}
use Rattle.nit_capture.proofs.Lemmas.{crop_pixel, range_with_len}
use Rattle.nit_capture.proofs.cut.cut_rows.Given as goal

abbrev pub invariant-loop-row : goal.invariant-loop-row
invariant-loop-row l = take (l.row * l.rect.w) l.into ≡ map (crop_pixel l.grid.width l.grid.height l.rect l.ppm)
    (range_with_len 0 (l.row * l.rect.w))
