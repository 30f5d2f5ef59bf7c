-- What is needed to paint a part of a row, and an area. Each raw word is below 2^24.
use Rattle.std.specs.Prelude.{◌≡◌, ℕ, ◌+◌, ◌*◌, ◌<◌, ◌≤◌, List, length, All}
use Rattle.nit_overlay.specs.Area.{IsArea}
use Rattle.nit_overlay.specs.Below.{Area, IsWord, LetteredLook, RowPart, Rule, most_height}
use Rattle.nit_overlay.specs.Below.{most_width}
use Rattle.nit_overlay.specs.Look.{IsLook}
use Rattle.nit_overlay.specs.PixelRow.{IsRowPart}
use Rattle.nit_overlay.specs.Rule.{IsTagged}

-- ---- by rules

-- pixels of the row y from the column x on, whose words `raw` and `out` are: where the rule is to
-- paint a text, they lie in its picture
pub record IsRunToPaint (rule : Rule) (x y : ℕ) (raw out : List ℕ) : Type 0 where
  pub same_length : length out ≡ length raw
  pub words : All IsWord raw
  pub tagged : IsTagged rule x (x + length raw) y
  pub across : x + length raw ≤ most_width

-- a part of a row that `raw` and `out` have the words of
pub record IsRowToPaint (p : RowPart) (raw out : List ℕ) : Type 0 where
  pub same_length : length out ≡ length raw
  pub words : All IsWord raw
  pub part : IsRowPart (length raw) p

-- an area of rows of this width, that `raw` and `out` have the words of
pub record IsAreaToPaint (wide : ℕ) (a : Area) (raw out : List ℕ) : Type 0 where
  pub width : (1 ≤ wide) × (wide ≤ most_width)
  pub same_length : length out ≡ length raw
  pub words : All IsWord raw
  pub area : IsArea wide most_height a
  pub within : a.bottom * wide ≤ length raw

-- ---- as a look shows it

-- there is a raw word for each pixel of the look's screen, below 2^24, and a word to be set
pub record AreScreenWords (l : LetteredLook) (raws outs : List ℕ) : Type 0 where
  pub look : IsLook l
  pub raw : length raws ≡ l.look.stack.now.width * l.look.stack.now.height
  pub out : length outs ≡ l.look.stack.now.width * l.look.stack.now.height
  pub words : All IsWord raws

-- such a part of a row of the look's screen
pub record IsRowToShow (l : LetteredLook) (p : RowPart) (raw out : List ℕ) : Type 0 where
  pub look : IsLook l
  pub row : IsRowToPaint p raw out
  pub down : p.y < most_height

-- a part of a row of the bar of the look's screen, which `out` has the words of
pub record IsBarToShow (l : LetteredLook) (p : RowPart) (out : List ℕ) : Type 0 where
  pub look : IsLook l
  pub part : IsRowPart (length out) p

-- an area of the look's screen, whose words `raw` and `out` have
pub record IsAreaToShow (l : LetteredLook) (a : Area) (raw out : List ℕ) : Type 0 where
  pub look : IsLook l
  pub count : length raw ≡ l.look.stack.now.width * l.look.stack.now.height
  pub same_length : length out ≡ length raw
  pub words : All IsWord raw
  pub area : IsArea l.look.stack.now.width l.look.stack.now.height a
