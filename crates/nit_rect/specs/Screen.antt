-- The pixels of a screen.
use Rattle.std.specs.Prelude.{ℕ, pos, ◌≤ℤ◌, ◌<ℤ◌}
use Rattle.nit_rect.specs.Below.{Point}

-- a screen of this width and height has the pixel
abbrev pub IsOnScreen : ℕ → ℕ → Point → Type 0
IsOnScreen width height p =
    (pos 0 ≤ℤ p.x) × (p.x <ℤ pos width) × (pos 0 ≤ℤ p.y) × (p.y <ℤ pos height)
