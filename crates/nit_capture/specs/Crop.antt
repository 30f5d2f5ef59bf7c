-- The part of a screen's picture inside a rectangle.
use Rattle.std.specs.Prelude.{◌≡◌, ℕ, ◌+◌, ◌-◌, length, ◌*◌, ◌/◌, ◌%◌, pos, nat_abs, List, [], ◌∷◌}
use Rattle.std.specs.Prelude.{◌++◌, map, slice_index, IsTrue}
use Rattle.nit_capture.specs.Below.{HasPixels, LiesIn, Rectangle, channels, covers, flat_map}
use Rattle.nit_capture.specs.Below.{range_with_len, rectangle, word_of}
use Rattle.nit_capture.specs.Tiles.{IsPicture}

-- the screen as a rectangle
abbrev pub screen : ℕ → ℕ → Rectangle
screen width height = rectangle (pos 0) (pos 0) width height

-- the rectangle lies on the screen, and has pixels
pub record IsPartOfScreen (width height : ℕ) (r : Rectangle) : Type 0 where
  pub inside : LiesIn r (screen width height)
  pub pixels : HasPixels r

-- where a screen's picture has pixel k of a rectangle on it, by rows of the rectangle
unfoldable pub crop_place : ℕ → Rectangle → ℕ → ℕ
crop_place width r k = (nat_abs r.y + k / r.w) * width + (nat_abs r.x + k % r.w)

-- where it has the first pixel of a row of the rectangle
unfoldable pub crop_row_place : ℕ → Rectangle → ℕ → ℕ
crop_row_place width r row = (nat_abs r.y + row) * width + nat_abs r.x

-- the part of a screen's picture inside a rectangle on it
abbrev pub crop : ℕ → Rectangle → List ℕ → List ℕ
crop width r frame =
    map (λ k. slice_index frame (crop_place width r k)) (range_with_len 0 (r.w * r.h))

-- two pictures of a screen have the same word at each pixel that the rectangle covers
abbrev pub AgreeInside : ℕ → Rectangle → List ℕ → List ℕ → Type 0
AgreeInside width r a b =
    (x y : ℕ) → IsTrue (covers r (record { x = pos x; y = pos y }))
    → slice_index a (y * width + x) ≡ slice_index b (y * width + x)

-- two lists of pictures of a screen agree inside the rectangle, picture by picture
abbrev pub AllAgree : ℕ → Rectangle → List (List ℕ) → List (List ℕ) → Type 0
AllAgree width r [] [] = Unit {0}
AllAgree width r [] (b ∷ bs) = ⊥
AllAgree width r (a ∷ as') [] = ⊥
AllAgree width r (a ∷ as') (b ∷ bs) = AgreeInside width r a b × AllAgree width r as' bs

-- ---- pictures as bytes

-- the bytes are a picture of the screen: a front, and then three bytes for each pixel
pub record Shows (width height : ℕ) (bytes frame : List ℕ) : Type 0 where
  pub front : List ℕ
  pub bytes_are : bytes ≡ front ++ flat_map channels frame
  pub picture : IsPicture width height frame

-- the word of the three bytes from this place on
unfoldable pub word_of_bytes : List ℕ → ℕ → ℕ
word_of_bytes bytes i =
    word_of (slice_index bytes i) (slice_index bytes (i + 1)) (slice_index bytes (i + 2))

-- pixel k of a rectangle, in the picture of the screen that is the last `3 * (width * height)`
-- bytes
abbrev pub crop_pixel : ℕ → ℕ → Rectangle → List ℕ → ℕ → ℕ
crop_pixel width height r bytes k =
    word_of_bytes bytes (length bytes - 3 * (width * height) + 3 * crop_place width r k)

-- the part of that picture inside the rectangle
unfoldable pub crop_bytes : ℕ → ℕ → Rectangle → List ℕ → List ℕ
crop_bytes width height r bytes =
    map (crop_pixel width height r bytes) (range_with_len 0 (r.w * r.h))
