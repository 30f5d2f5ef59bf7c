-- One history of raw words, and the pictures of a journal's shots that show it. Pixels count from
-- 0, row by row from the top.
use Rattle.std.specs.Prelude.{◌≡◌, ℕ, ◌*◌, ◌<◌, false, List, ◌∷◌, ◌++◌, length}
use Rattle.nit_actor.specs.Below.{AreShotsOf, Configuration, Entry, File, InputLine, IsHeld, Line}
use Rattle.nit_actor.specs.Below.{is_dirtied, slice_index_or}
use Rattle.nit_actor.specs.Pictures.{IsNearPicture}

-- none of these entries, which stand after this front of a journal, makes the pixel dirty
abbrev pub StaysClean : Configuration → List Entry → List Entry → ℕ → Type 0
StaysClean config front between k = (before : List Entry) (e : Entry) (more : List Entry)
    → between ≡ before ++ e ∷ more → is_dirtied config (front ++ before) e k ≡ false

-- the bytes are a picture that these entries allow, by the words that are held after them
abbrev pub IsHeldPicture : (ℕ → ℕ → ℕ) → Configuration → List (List Line) → List InputLine
    → List Entry → List ℕ → Type 0
IsHeldPicture held config scripts input entries bytes =
    (near : IsNearPicture config scripts input entries bytes)
    × ((k : ℕ) → k < config.width * config.height
    → slice_index_or near.1.0 k 0 ≡ held (length entries) k)

-- There is one history of raw words, and the files are those of the shots of a journal, in order:
-- each is a picture that the entries before its shot allow, by the words that are held then.
pub record AreOfOneHistory (config : Configuration) (scripts : List (List Line))
    (input : List InputLine) (journal : List Entry) (files : List File) : Type 0 where
  pub held : ℕ → ℕ → ℕ
  pub is_held : IsHeld config journal held
  pub shown : AreShotsOf (IsHeldPicture held config scripts input) journal files
