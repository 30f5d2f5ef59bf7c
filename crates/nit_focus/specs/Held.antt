-- The codes that are held down.
use Rattle.nit_focus.specs.Below.{All, IsCode, IsDistinct, List, eqb, ℕ}

-- each is the code of a key or button, and no code is held twice
pub record AreHeldCodes (codes : List ℕ) : Type 0 where
  pub known : All IsCode codes
  pub different : IsDistinct eqb codes
