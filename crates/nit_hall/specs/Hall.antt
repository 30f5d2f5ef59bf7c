-- What an actor is told over the lock and beside it.
use Rattle.std.specs.Prelude.{◌≡◌, ℕ, ◌≤◌, List, [], ◌∷◌, ◌++◌, length}
use Rattle.nit_hall.specs.Below.{Entry, most_height, most_width}
use Rattle.nit_events.specs.declared.entry.Entry.TheVariants as entry
use Rattle.nit_hall.specs.OpeningParts.{OpeningParts}
use Rattle.nit_hall.specs.NearWords.{IsNearFrame}

-- the entry was added to all that had been known, and to what others had added since
abbrev pub Tells : List Entry → Entry → List Entry → Type 0
Tells before e after = (between : List Entry) × (after ≡ (before ++ between) ++ e ∷ [])

-- A shot was added so, and these words are a frame of the journal in front of it. The raw words
-- after each entry were told so too: after the shot they are those by which the frame is.
pub record TellsShot (parts : OpeningParts) (before : List Entry) (before_raws : List (List ℕ))
    (number : ℕ) (after : List Entry) (raws : List (List ℕ)) (words : List ℕ) : Type 0 where
  pub between : List Entry
  pub told : after ≡ (before ++ between) ++ entry.Shot number ∷ []
  pub near : IsNearFrame parts.config parts.scripts parts.input (before ++ between) words
  pub between_raws : List (List ℕ)
  pub raws_told : raws ≡ (before_raws ++ between_raws) ++ near.0 ∷ []
  pub each : length (before_raws ++ between_raws) ≡ length (before ++ between)

-- the size of the screen and the number of clients of this opening
pub record IsMeasured (parts : OpeningParts) (width height clients : ℕ) : Type 0 where
  pub width_is : width ≡ parts.config.width
  pub height_is : height ≡ parts.config.height
  pub screen : (width ≤ most_width) × (height ≤ most_height)
  pub clients_are : clients ≡ length parts.scripts
