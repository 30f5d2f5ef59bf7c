-- A player as contracts see it.
use Rattle.nit_capture.specs.Below.{List, ℕ}
use Rattle.nit_capture.specs.Film.{HasHeader, HasRecord}

-- the width and height of each picture, and the bytes that are still to be played
pub record PlayerModel : Type 0 where
  pub width : ℕ
  pub height : ℕ
  pub rest : List ℕ

-- the bytes begin with a film's header, and the player has its size and what follows
abbrev pub BeginsFilm : List ℕ → PlayerModel → Type 0
BeginsFilm bytes p = HasHeader bytes p.width p.height p.rest

-- what is still to be played begins with the record of picture `now` after `before`, and the rest
-- follows
abbrev pub GoesOn : PlayerModel → List ℕ → List ℕ → List ℕ → Type 0
GoesOn p before now rest = HasRecord p.width p.height before p.rest now rest
