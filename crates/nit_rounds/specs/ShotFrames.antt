-- The frames of the shots of a run, their pictures, and what it means that they are shown one after
-- the other.
use Rattle.std.specs.Prelude.{◌≡◌, ℕ, List, [], ◌∷◌}
use Rattle.nit_rounds.specs.Below.{File, picture}
use Rattle.nit_rounds.specs.RoundsRun.{shot_name}

-- the frame of a shot: the shot's number, the size of the screen, and a word for each of its pixels
pub record ShotFrame : Type 0 where
  pub number : ℕ
  pub width : ℕ
  pub height : ℕ
  pub words : List ℕ

-- the file of its picture, named by the shot's number
abbrev pub shot_file : ShotFrame → File
shot_file f = (shot_name f.number, picture f.width f.height f.words)

-- frames are shown one after the other, where this is what it means that one is shown
abbrev pub ShowsEach : {V : Type 0} → (ShotFrame → V → V → Type 0) → List ShotFrame → V → V
    → Type 0
ShowsEach Shows [] old new = new ≡ old
ShowsEach {V = V} Shows (f ∷ rest) old new =
    (mid : V) × Shows f old mid × ShowsEach Shows rest mid new
