-- Where a rectangle lies in an area and meets none of the n parts in front.
use Rattle.std.specs.Prelude.{◌≡◌, ℕ, ◌+◌, ◌<◌, ◌≤◌, ◌⊎◌, Bool, true, false, ◌&&◌, nat_lt, min}
use Rattle.std.specs.Prelude.{IfSome, Option, Some, None, if◌then◌else◌}
use Rattle.nit_place.specs.Below.{Free, Full, Point, Row, ScreenPart, most_edge, point}

-- the part shares a pixel with the rectangle of w by h at (x, y)
abbrev pub meets : ℕ → ℕ → ℕ → ℕ → ScreenPart → Bool
meets x y w h r =
    nat_lt r.left (x + w) && (nat_lt x r.right && (nat_lt r.top (y + h)
    && (nat_lt y r.bottom && (nat_lt r.left r.right && nat_lt r.top r.bottom))))

-- the rectangle lies in the area, and no part in front meets it
pub record IsFree (front : ℕ → ScreenPart) (n : ℕ) (area : ScreenPart) (w h x y : ℕ) : Type 0 where
  pub from_left : area.left ≤ x
  pub to_right : x + w ≤ area.right
  pub from_top : area.top ≤ y
  pub to_bottom : y + h ≤ area.bottom
  pub clear : (k : ℕ) → k < n → meets x y w h (front k) ≡ false

-- a place that is such an edge of a part in front, and not the screen's first
abbrev pub IsEdge : (ℕ → ScreenPart) → ℕ → (ScreenPart → ℕ) → ℕ → Type 0
IsEdge front n edge at = (k : ℕ) × (k < n) × (0 < at) × (at ≡ edge (front k))

-- a part in front that is in the way; none where none is
abbrev pub IsBlocking : (ℕ → ScreenPart) → ℕ → ℕ → ℕ → ℕ → ℕ → Option ScreenPart → Type 0
IsBlocking front n x y w h None = (k : ℕ) → k < n → meets x y w h (front k) ≡ false
IsBlocking front n x y w h (Some r) =
    (k : ℕ) × (k < n) × (r ≡ front k) × (meets x y w h r ≡ true) × (r.right ≤ most_edge)
    × (r.bottom ≤ most_edge)

-- whichever part has its right edge further right
abbrev pub further : Option ScreenPart → ScreenPart → ScreenPart
further None r = r
further (Some q) r = if nat_lt q.right r.right then r else q

-- the row that is nearer
abbrev pub nearer : Option ℕ → ℕ → ℕ
nearer None b = b
nearer (Some a) b = min a b

-- the least column of the row y at which the rectangle is free
pub record IsLeastInRow (front : ℕ → ScreenPart) (n : ℕ) (area : ScreenPart)
    (w h y x : ℕ) : Type 0 where
  pub small : x ≤ most_edge
  pub free : IsFree front n area w h x y
  pub least : (x' : ℕ) → x' < x → IsFree front n area w h x' y → ⊥
  pub column : (x ≡ area.left) ⊎ IsEdge front n (λ r. r.right) x

-- The rectangle is free neither in the row y nor in the rows below it that come before the next
-- one; in no row below where there is no next one.
pub record IsFull (front : ℕ → ScreenPart) (n : ℕ) (area : ScreenPart) (w h y : ℕ) (next : Option ℕ)
    : Type 0 where
  pub none : (x' y' : ℕ) → y ≤ y' → IfSome next (λ b. y' < b) → IsFree front n area w h x' y' → ⊥
  pub edge : IfSome next (λ b. (y < b) × (b ≤ most_edge) × IsEdge front n (λ r. r.bottom) b)

-- what a row has for the rectangle
abbrev pub IsRowSearched : (ℕ → ScreenPart) → ℕ → ScreenPart → ℕ → ℕ → ℕ → Row → Type 0
IsRowSearched front n area w h y (Free x) = IsLeastInRow front n area w h y x
IsRowSearched front n area w h y (Full next) = IsFull front n area w h y next

-- the least place, by row and then by column, at which the rectangle is free
pub record IsLeastFree (front : ℕ → ScreenPart) (n : ℕ) (area : ScreenPart)
    (w h x y : ℕ) : Type 0 where
  pub in_row : IsLeastInRow front n area w h y x
  pub above : (x' y' : ℕ) → y' < y → IsFree front n area w h x' y' → ⊥
  pub row : (y ≡ area.top) ⊎ IsEdge front n (λ r. r.bottom) y

-- the least place as a point; none where the rectangle is free nowhere
abbrev pub IsSearched : (ℕ → ScreenPart) → ℕ → ScreenPart → ℕ → ℕ → Option Point → Type 0
IsSearched front n area w h None = (x y : ℕ) → IsFree front n area w h x y → ⊥
IsSearched front n area w h (Some q) =
    (x : ℕ) × (y : ℕ) × (q ≡ point x y) × IsLeastFree front n area w h x y
