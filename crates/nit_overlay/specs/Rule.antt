-- How a pixel is painted.
use Rattle.std.specs.Prelude.{ℕ, ◌+◌, ◌-◌, ◌<◌, ◌≤◌, length}
use Rattle.nit_overlay.specs.Below.{Dim, Fill, IsLettering, Raw, Rule, Tag, Text, Tint, dim}
use Rattle.nit_overlay.specs.Below.{picture_height, picture_width, text_dot, tint}
use Rattle.nit_overlay.specs.Frame.{ink_of}

-- the word that a rule gives to the pixel in column x and row y, whose raw word is w
abbrev pub word_by : Rule → ℕ → ℕ → ℕ → ℕ
word_by (Fill word) x y w = word
word_by Raw x y w = w
word_by Dim x y w = dim w
word_by Tint x y w = tint w
word_by (Text tag) x y w = ink_of (text_dot tag.lettering tag.text (x - tag.left) (y - tag.top))

-- the pixels of the row y from column `from` to before `to` lie in the picture of a text
pub record IsInTag (tag : Tag) (from to y : ℕ) : Type 0 where
  pub lettering : IsLettering tag.lettering
  pub left : tag.left ≤ from
  pub right : to ≤ tag.left + picture_width tag.lettering (length tag.text)
  pub top : tag.top ≤ y
  pub bottom : y < tag.top + picture_height tag.lettering

-- where the rule is to paint a text, they lie in its picture
abbrev pub IsTagged : Rule → ℕ → ℕ → ℕ → Type 0
IsTagged (Text tag) from to y = IsInTag tag from to y
IsTagged other from to y = Unit {0}
