-- Parts of a screen.
use Rattle.std.specs.Prelude.{◌≡◌, ℕ, ◌%◌, ◌/◌, ◌*◌, ◌<◌, ◌≤◌, Bool, ◌&&◌, nat_le, nat_lt, List}
use Rattle.std.specs.Prelude.{length, slice_index, if◌then◌else◌}
use Rattle.nit_overlay.specs.Below.{Area, LetteredLook, Rectangle, covers, pixel, point}
use Rattle.nit_overlay.specs.Look.{scenery}
use Rattle.nit_overlay.specs.Frame.{shown}

-- the pixel in column x and row y lies in the area
abbrev pub in_area : Area → ℕ → ℕ → Bool
in_area a x y = (nat_le a.left x && nat_lt x a.right) && (nat_le a.top y && nat_lt y a.bottom)

-- an area of a screen of this size
pub record IsArea (width height : ℕ) (a : Area) : Type 0 where
  pub across : a.left ≤ a.right
  pub down : a.top ≤ a.bottom
  pub right : a.right ≤ width
  pub bottom : a.bottom ≤ height

-- Of so many words, each that is chosen is by f of its index and its raw word, and each other one
-- is as before.
pub record IsOverlaid (f : ℕ → ℕ → ℕ) (chosen : ℕ → Bool) (raw old now : List ℕ)
    (count : ℕ) : Type 0 where
  pub words : (k : ℕ) → k < count
      → slice_index now k ≡ (if chosen k then f k (slice_index raw k) else slice_index old k)
  pub rest : (k : ℕ) → count ≤ k → slice_index now k ≡ slice_index old k

-- Of so many words, those of the pixels in the area are by f of the column, the row and the raw
-- word, and all others as before.
abbrev pub IsAreaBy : (ℕ → ℕ → ℕ → ℕ) → Area → (width : ℕ) → List ℕ → List ℕ → List ℕ → ℕ → Type 0
IsAreaBy f a width raw old now count =
    IsOverlaid (λ k w. f (k % width) (k / width) w) (λ k. in_area a (k % width) (k / width))
    raw old now count

-- the pixels of the screen that lie in the area are as shown, and all others as before
abbrev pub IsShownIn : Area → LetteredLook → List ℕ → List ℕ → List ℕ → Type 0
IsShownIn a l raw old now =
    IsAreaBy (λ x y w. shown (scenery l) (point x y) w) a l.look.stack.now.width raw old now
    (l.look.stack.now.width * l.look.stack.now.height)

-- the pixels of the screen that lie in the rectangle are as shown, and all others as before
pub record IsRectShown (r : Rectangle) (l : LetteredLook) (raw old now : List ℕ) : Type 0 where
  pub pixels : (k : ℕ) → k < l.look.stack.now.width * l.look.stack.now.height
      → slice_index now k
      ≡ (if covers r (pixel l.look.stack.now.width k)
      then shown (scenery l) (pixel l.look.stack.now.width k) (slice_index raw k)
      else slice_index old k)
  pub count : length now ≡ length old
