-- How texts are drawn.
use Rattle.std.specs.Prelude.{ℕ, ◌+◌, ◌*◌, ◌≤◌}
use Rattle.nit_glyph.specs.Below.{Glyphs, Large, Lettering, Small}

-- the most pixels of a dot's side
abbrev pub most_scale : ℕ
most_scale = 8

-- a dot's side is 1 to 8 pixels
abbrev pub IsLettering : Lettering → Type 0
IsLettering l = (1 ≤ l.scale) × (l.scale ≤ most_scale)

-- small glyphs, each dot one pixel
abbrev pub plain : Lettering
plain = record { glyphs = Small; scale = 1 }

-- the columns of a glyph
abbrev pub columns_of : Glyphs → ℕ
columns_of Small = 3
columns_of Large = 5

-- the rows of a glyph
abbrev pub rows_of : Glyphs → ℕ
rows_of Small = 5
rows_of Large = 7

-- the columns from one character to the next: those of a glyph, and a free one
abbrev pub step_of : Glyphs → ℕ
step_of Small = 4
step_of Large = 6

-- the columns of the picture of n characters, in pixels
abbrev pub picture_width : Lettering → ℕ → ℕ
picture_width l n = l.scale * (step_of l.glyphs * n + 1)

-- the rows of every picture, in pixels
abbrev pub picture_height : Lettering → ℕ
picture_height l = l.scale * (rows_of l.glyphs + 2)

-- the most columns of a picture: those of 33 large glyphs, each dot eight pixels
abbrev pub most_picture_width : ℕ
most_picture_width = 1592

-- the most rows of a picture
abbrev pub most_picture_height : ℕ
most_picture_height = 72
