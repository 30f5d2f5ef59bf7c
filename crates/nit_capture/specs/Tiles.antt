-- Pictures, and the tiles that they are cut into.
use Rattle.std.specs.Prelude.{◌≡◌, ◌≤◌, ℕ, ◌+◌, ◌-◌, ◌*◌, ◌/◌, ◌%◌, min, Bool, not, ◌==◌, List, map}
use Rattle.nit_capture.specs.Below.{All, IsWord, length, list_any, most_run_height, most_run_width}
use Rattle.nit_capture.specs.Below.{range_with_len, replicate, slice_index}

-- a picture of w by h has a word for each pixel, row by row from the top
pub record IsPicture (w h : ℕ) (picture : List ℕ) : Type 0 where
  pub size : length picture ≡ w * h
  pub words : All IsWord picture

-- two pictures of one size, the second after the first
pub record ArePictures (w h : ℕ) (first next : List ℕ) : Type 0 where
  pub before : IsPicture w h first
  pub now : IsPicture w h next

-- the picture before the first one
abbrev pub black : ℕ → ℕ → List ℕ
black w h = replicate (w * h) 0

-- a picture has 1 to 1024 columns and 1 to 768 rows
pub record IsPictureSize (w h : ℕ) : Type 0 where
  pub some_columns : 1 ≤ w
  pub some_rows : 1 ≤ h
  pub columns : w ≤ most_run_width
  pub rows : h ≤ most_run_height

-- the pixels of the largest picture
abbrev pub most_pixels : ℕ
most_pixels = 786432

-- ---- tiles of 16 by 16, cut off at the right and lower edge, and numbered by rows from 0

-- the columns and the rows of a tile that is not cut off, and its pixels
abbrev pub tile_side : ℕ
tile_side = 16

abbrev pub most_area : ℕ
most_area = 256

-- how many tiles of a picture stand side by side at most, and how many there are
abbrev pub most_across : ℕ
most_across = 64

abbrev pub most_tiles : ℕ
most_tiles = 3072

-- how many tiles so many columns or rows are cut into
unfoldable pub tiles_along : ℕ → ℕ
tiles_along n = (n + 15) / tile_side

-- how many tiles a picture has
unfoldable pub tile_count : ℕ → ℕ → ℕ
tile_count w h = tiles_along w * tiles_along h

-- the left column of tile t
unfoldable pub left_of : ℕ → ℕ → ℕ
left_of w t = tile_side * (t % tiles_along w)

-- the top row of tile t
unfoldable pub top_of : ℕ → ℕ → ℕ
top_of w t = tile_side * (t / tiles_along w)

-- how many columns tile t has
unfoldable pub wide : ℕ → ℕ → ℕ
wide w t = min tile_side (w - left_of w t)

-- how many rows tile t has
unfoldable pub high : ℕ → ℕ → ℕ → ℕ
high w h t = min tile_side (h - top_of w t)

-- how many pixels tile t has
unfoldable pub area : ℕ → ℕ → ℕ → ℕ
area w h t = high w h t * wide w t

-- where the picture has pixel k of tile t, by rows of the tile
unfoldable pub place : ℕ → ℕ → ℕ → ℕ
place w t k = (top_of w t + k / wide w t) * w + (left_of w t + k % wide w t)

-- where the picture has the first pixel of a row of tile t
unfoldable pub row_place : ℕ → ℕ → ℕ → ℕ
row_place w t row = (top_of w t + row) * w + left_of w t

-- the pixels of tile t, by rows, from pixel k on, so many
abbrev pub tile_pixels : ℕ → List ℕ → ℕ → ℕ → ℕ → List ℕ
tile_pixels w picture t k count =
    map (λ j. slice_index picture (place w t j)) (range_with_len k count)

-- the pixels of tile t, by rows
abbrev pub tile : ℕ → ℕ → List ℕ → ℕ → List ℕ
tile w h picture t = tile_pixels w picture t 0 (area w h t)

-- whether tile t of two pictures differs in some pixel
unfoldable pub differs : ℕ → ℕ → List ℕ → List ℕ → ℕ → Bool
differs w h before now t =
    list_any (λ k. not (slice_index before (place w t k) == slice_index now (place w t k)))
    (range_with_len 0 (area w h t))
