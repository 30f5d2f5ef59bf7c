-- The picture of a text.
use Rattle.std.specs.Prelude.{◌≡◌, ℕ, ◌-◌, ◌/◌, ◌%◌, ◌^◌, ◌<◌, ◌==◌, Bool, ◌&&◌}
use Rattle.std.specs.Prelude.{nat_le, nat_lt, List, [], Option, is_some, find, length, slice_index}
use Rattle.std.specs.Prelude.{unwrap_or, bit_and, bit_xor, count_ones, map, IsTrue}
use Rattle.nit_glyph.specs.Below.{Glyphs, Large, Lettering, Small, list_all, option_map}
use Rattle.nit_glyph.specs.Below.{range_with_len, sum}
use Rattle.nit_glyph.specs.Glyphs.{large_glyphs, small_glyphs}
use Rattle.nit_glyph.specs.Lettering.{columns_of, picture_height, picture_width, rows_of, step_of}

-- each character that has a glyph, with the glyph's rows from the top
abbrev pub table_of : Glyphs → List (ℕ × List ℕ)
table_of Small = small_glyphs
table_of Large = large_glyphs

-- the rows of a character's glyph, from the top, by the table; none where the table has no such
-- character
unfoldable pub glyph_rows : Glyphs → ℕ → Option (List ℕ)
glyph_rows glyphs c = option_map (λ g. g.1) (find (λ g. g.0 == c) (table_of glyphs))

-- one row of a character's glyph, which is 0 where it has none
abbrev pub glyph_row : Glyphs → ℕ → ℕ → ℕ
glyph_row glyphs c j = slice_index (unwrap_or (glyph_rows glyphs c) []) j

-- the value of a column's bit: 1 for the right column, and for each other one twice that of the
-- next
abbrev pub column_bit : Glyphs → ℕ → ℕ
column_bit glyphs column = 2 ^ (columns_of glyphs - 1 - column)

-- a row of a glyph has a dot in a column where it has the column's bit; the column behind the glyph
-- is free
abbrev pub row_has_dot : Glyphs → ℕ → ℕ → Bool
row_has_dot glyphs row column =
    nat_lt column (columns_of glyphs)
    && bit_and row (column_bit glyphs column) == column_bit glyphs column

-- whether the picture of a text in these glyphs has a dot at column x and row y:
-- column 0 is the margin, and then each character has the columns of a glyph and a free one; the
-- rows of a glyph are the rows from 1 on
unfoldable pub dot : Glyphs → List ℕ → ℕ → ℕ → Bool
dot glyphs text x y =
    nat_le 1 x && nat_le 1 y && nat_le y (rows_of glyphs)
    && row_has_dot glyphs (glyph_row glyphs (slice_index text ((x - 1) / step_of glyphs)) (y - 1))
    ((x - 1) % step_of glyphs)

-- whether the picture of a text has a dot at the pixel in column x and row y, where a dot of the
-- glyphs is a square of pixels
abbrev pub text_dot : Lettering → List ℕ → ℕ → ℕ → Bool
text_dot l text x y = dot l.glyphs text (x / l.scale) (y / l.scale)

-- a text of the glyphs: each of its characters has a small one, and so a large one
abbrev pub IsOfGlyphs : List ℕ → Type 0
IsOfGlyphs text = IsTrue (list_all (λ c. is_some (glyph_rows Small c)) text)

-- the pictures of two texts have equal sizes and equal dots
pub record SamePicture (l : Lettering) (s t : List ℕ) : Type 0 where
  pub width : picture_width l (length s) ≡ picture_width l (length t)
  pub dots : (x y : ℕ) → x < picture_width l (length s) → y < picture_height l
      → text_dot l s x y ≡ text_dot l t x y

-- in how many dots the glyphs of two characters differ
abbrev pub dots_apart : Glyphs → ℕ → ℕ → ℕ
dots_apart glyphs c d =
    sum (map (λ j. count_ones (bit_xor (glyph_row glyphs c j) (glyph_row glyphs d j)))
    (range_with_len 0 (rows_of glyphs)))
