-- Words of a part of a buffer that are handed in row by row.
use Rattle.std.specs.Prelude.{◌≡◌, ◌≤◌, ℕ, List, Option, Some, None}
use Rattle.nit_host.specs.Below.{Rectangle, plain_sight, set_where, told_words}
use Rattle.nit_host.specs.Host.{is_handed}
use Rattle.nit_host.specs.Sheet.{SheetModel, low_bytes}

-- the words of a sheet after a part of a buffer was handed in, where there is a part
abbrev pub after_handing : ℕ → ℕ → Option Rectangle → List ℕ → List ℕ → List ℕ
after_handing columns rows None words sheet = sheet
after_handing columns rows (Some part) words sheet =
    set_where (is_handed columns rows part) (low_bytes words) sheet

-- a sheet that tells its words, with room for all of them
pub record CanTakeWords (sheet : SheetModel) : Type 0 where
  pub room : sheet.sight.size ≤ sheet.room
  pub plain : sheet.sight ≡ plain_sight sheet.sight.owner (told_words sheet.sight.words)

-- the words of the sheet became these of them, and it has as much room at least
pub record IsHandedIn (f : List ℕ → List ℕ) (old new : SheetModel) : Type 0 where
  pub sight : new.sight ≡ plain_sight old.sight.owner (f (told_words old.sight.words))
  pub room : old.room ≤ new.room
