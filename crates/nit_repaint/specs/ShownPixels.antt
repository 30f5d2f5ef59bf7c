-- What a look shows at a pixel of a number.
use Rattle.nit_repaint.specs.Below.{List, LetteredLook, pixel, scenery, shown, slice_index, ℕ}

-- what is shown at the pixel, by the raw words
abbrev pub shown_at : LetteredLook → List ℕ → ℕ → ℕ
shown_at look raw k = shown (scenery look) (pixel look.look.stack.now.width k) (slice_index raw k)
