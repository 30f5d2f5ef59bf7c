-- The words of a session, the only one that has a buffer.
use Rattle.std.proofs.Common.{arith, ℕ, ℤ, zero, suc, ◌≤◌}
use Rattle.nit_rect.specs.Rectangle.{Rectangle}
use Rattle.nit_word.specs.Sight.{Sight}
use Rattle.nit_paint.specs.Pieces.{HoldBuffers}
use Rattle.nit_tests.specs.Painted.{one_view}

pub all_held : (rect : Rectangle) (ox oy : ℤ) (sights : ℕ → Sight) → 8 ≤ (sights 0).size
    → HoldBuffers (one_view rect ox oy) sights
all_held rect ox oy sights held zero = held
all_held rect ox oy sights held (suc t) = omega arith
