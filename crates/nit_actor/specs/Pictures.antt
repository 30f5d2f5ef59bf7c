-- The pictures of the shots of a journal that threads made, and which of them were put.
use Rattle.std.specs.Prelude.{◌≡◌, ℕ, List, ◌++◌, Some, length, slice_get}
use Rattle.nit_actor.specs.Below.{AreShotsOf, Configuration, Entry, File, InputLine, IsNearFrame}
use Rattle.nit_actor.specs.Below.{Line, OpeningParts, PutState, PutsAll, ShotsBehind, picture}
use Rattle.nit_actor.specs.Below.{shots}

-- The bytes are the picture of a frame of the state that these entries lead to, in which each pixel
-- holds a word that it may hold after them.
abbrev pub IsNearPicture : Configuration → List (List Line) → List InputLine → List Entry → List ℕ
    → Type 0
IsNearPicture config scripts input entries bytes =
    (words : List ℕ)
    × IsNearFrame config scripts input entries words
    × (bytes ≡ picture config.width config.height words)

-- the files are those of the shots of a journal, in order, and each is a picture that the entries
-- before its shot allow
abbrev pub AreNearShots : Configuration → List (List Line) → List InputLine → List Entry
    → List File → Type 0
AreNearShots config scripts input journal files =
    AreShotsOf (IsNearPicture config scripts input) journal files

-- so it is by the one of these lists of raw words that has as many in front of it as there are
-- entries: the words after the next entry, which is the shot
abbrev pub IsPictureAmong : List (List ℕ) → Configuration → List (List Line) → List InputLine
    → List Entry → List ℕ → Type 0
IsPictureAmong raws config scripts input entries bytes =
    (near : IsNearPicture config scripts input entries bytes)
    × (slice_get raws (length entries) ≡ Some near.1.0)

-- there are further entries now, and no shot among them
pub record GrowsQuietly (before after' : List Entry) : Type 0 where
  pub more : List Entry
  pub grown : after' ≡ before ++ more
  pub quiet : shots more ≡ 0

-- There are further entries now, and the pictures of the shots among them were put, in order, until
-- a put was refused. Each is by the raw words after its shot.
pub record PutsShotsBehind (parts : OpeningParts) (before after' : List Entry)
    (raws : List (List ℕ)) (old new : PutState) : Type 0 where
  pub more : List Entry
  pub grown : after' ≡ before ++ more
  pub files : List File
  pub are : ShotsBehind (IsPictureAmong raws parts.config parts.scripts parts.input) before more
      files
  pub put : PutsAll files old new
