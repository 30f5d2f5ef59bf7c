-- Words that a seat's client hands in, by column and row.
use Rattle.std.specs.Prelude.{ℕ, ℤ, pos, ◌<◌, ◌+ℤ◌, ◌≤ℤ◌, ◌<ℤ◌, slice_index}
use Rattle.nit_host.specs.Below.{Session}
use Rattle.nit_host.specs.Host.{HostModel, sheet_in}

-- the word of a seat at an index; 0 where it has none
abbrev pub sheet_word : HostModel → ℕ → ℕ → ℕ
sheet_word h seat n = slice_index (sheet_in h.sheets seat) n

-- the word in column i and row j is one of the session's buffer, and lies in the part of it that
-- begins at (x, y) and is w wide and `height` high
pub record IsInPart (s : Session) (x y : ℤ) (w height i j : ℕ) : Type 0 where
  pub column : i < s.bw
  pub row : j < s.bh
  pub left : x ≤ℤ pos i
  pub right : pos i <ℤ (x +ℤ pos w)
  pub top : y ≤ℤ pos j
  pub bottom : pos j <ℤ (y +ℤ pos height)
