-- Rectangles of the screen.
use Rattle.nit_damage.proofs.Basics.{HasPixels, IsOnScreen, IsScreenRectangle, IsStack, LiesIn}
use Rattle.nit_damage.proofs.Basics.{Point, Rectangle, StackModel, arith, bar_part, covers}
use Rattle.nit_damage.proofs.Basics.{false_from_ne_true, in_bar, ints, part_below_bar, rectangle}
use Rattle.nit_damage.proofs.Basics.{within}
use Rattle.std.proofs.Common.{false, not, pos, true, ℕ, ◌+◌, ◌<ℤ◌, ◌≡◌, ◌≤ℤ◌, ◌≤◌}

-- a pixel in rows of the screen, from one row on
pub record IsAmong (width from high : ℕ) (p : Point) : Type 0 where
  pub left : pos 0 ≤ℤ p.x
  pub right : p.x <ℤ pos width
  pub top : pos from ≤ℤ p.y
  pub bottom : p.y <ℤ pos (from + high)

pub rows_hold : (width from high : ℕ) (p : Point) → IsAmong width from high p
    → covers (rectangle (pos 0) (pos from) width high) p ≡ true
rows_hold width from high p is = grind (arith, ints)

module _ (s : StackModel) (p : Point) where
  pub below_not_in_bar : covers (part_below_bar s) p ≡ true → in_bar s.bar p ≡ false
  below_not_in_bar is = grind (arith, ints)

  pub bar_in_bar : covers (bar_part s) p ≡ true → in_bar s.bar p ≡ true
  bar_in_bar is = grind (arith, ints)

  pub bar_is : IsOnScreen s.width s.height p → covers (bar_part s) p ≡ in_bar s.bar p
  bar_is on = grind (arith, ints)

  module _ (fits : s.bar ≤ s.height) where
    pub below_on_screen : covers (part_below_bar s) p ≡ true → IsOnScreen s.width s.height p
    below_on_screen is = grind (arith, ints)

    pub bar_on_screen : covers (bar_part s) p ≡ true → IsOnScreen s.width s.height p
    bar_on_screen is = grind (arith, ints)

    -- on the screen the part below the bar is what the bar leaves
    pub below_is : IsOnScreen s.width s.height p → covers (part_below_bar s) p ≡ not (in_bar s.bar p)
    below_is on = grind (arith, ints)

    -- off the screen neither part has the pixel
    pub below_off : (IsOnScreen s.width s.height p → ⊥) → covers (part_below_bar s) p ≡ false
    below_off off = false_from_ne_true _ (λ is. off (below_on_screen is))

    pub bar_off : (IsOnScreen s.width s.height p → ⊥) → covers (bar_part s) p ≡ false
    bar_off off = false_from_ne_true _ (λ is. off (bar_on_screen is))

-- what lies below the bar is a rectangle of the screen
pub on_screen : (s : StackModel) (r : Rectangle) → IsStack s → HasPixels r → LiesIn r (part_below_bar s)
    → IsScreenRectangle r
on_screen s r is some lie =
    let edges = within r (part_below_bar s) some lie in
    grind (arith, ints, is.screen, is.bar)
