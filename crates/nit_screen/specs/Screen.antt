-- What contracts see of a screen, and what it needs of the sessions' words.
use Rattle.std.specs.Prelude.{◌≡◌, ℕ, ◌<◌, Bool, List, length}
use Rattle.nit_screen.specs.Below.{Configuration, ServerModel, Sight, member, table_size}

-- the server, the raw words of the screen's pixels, and whether the frame is still to be made
pub record ScreenModel : Type 0 where
  pub serving : ServerModel
  pub raw : List ℕ
  pub is_stale : Bool

-- a glass is the one of this session, with so many words as its table has
abbrev pub IsGlass : Configuration → ℕ → Sight → Type 0
IsGlass config t sight = (sight.owner ≡ t) × (sight.size ≡ table_size (member config t).donation)

-- each session has a glass
abbrev pub AreGlasses : Configuration → (ℕ → Sight) → Type 0
AreGlasses config sights = (t : ℕ) → t < length config.clients → IsGlass config t (sights t)
