-- What is drawn on a session's own glass, and not yet on the scene's.
use Rattle.std.specs.Prelude.{◌≡◌, ℕ, ◌+◌, ◌*◌, ◌<◌, ◌≤◌, Bool, false, List, length, slice_index}
use Rattle.nit_rounds.specs.Below.{None, Option, SceneModel, Sight, Some, Stale, glass_in}
use Rattle.nit_rounds.specs.Below.{most_side, slice_set}
use Rattle.nit_rounds.specs.RunState.{is_number_in}

-- the word of this number is stale
abbrev pub is_stale : Option Stale → ℕ → Bool
is_stale None n = false
is_stale (Some a) n = is_number_in a.w a.area n

-- the places are those of a buffer that stands in so many words
pub record FitsInto (size : ℕ) (a : Stale) : Type 0 where
  pub wide : a.w ≤ most_side
  pub tall : a.area.y + a.area.h ≤ most_side
  pub columns : a.area.x + a.area.w ≤ a.w
  pub room : (a.area.y + a.area.h) * a.w ≤ size

-- one glass is the other one, but for the words of these numbers
pub record IsButFor (chosen : ℕ → Bool) (there own : Sight) : Type 0 where
  pub old : List ℕ
  pub now : List ℕ
  pub is : there ≡ record own { words = Some old }
  pub told : own.words ≡ Some now
  pub long : length now ≡ length old
  pub same : (n : ℕ) → chosen n ≡ false → slice_index now n ≡ slice_index old n

-- what is stale is of this session, and the scene's glass of it is the own one, but for what is
-- stale
pub record IsBehindBy (a : Stale) (sid : ℕ) (there own : Sight) : Type 0 where
  pub of : a.sid ≡ sid
  pub fits : FitsInto own.size a
  pub but : IsButFor (is_stale (Some a)) there own

-- the scene's glass of the session is the own one, but for what is stale; where nothing is, it is
-- equal
abbrev pub IsBehind : Option Stale → ℕ → Sight → Sight → Type 0
IsBehind None sid there own = there ≡ own
IsBehind (Some a) sid there own = IsBehindBy a sid there own

-- the scene's glasses are the own ones, but for what is stale
abbrev pub AreBehind : Option Stale → List Sight → List Sight → Type 0
AreBehind None glasses owns = glasses ≡ owns
AreBehind (Some a) glasses owns =
    (a.sid < length owns) × (slice_set glasses a.sid (glass_in owns a.sid) ≡ owns)
    × IsBehindBy a a.sid (glass_in glasses a.sid) (glass_in owns a.sid)

-- the scene after all that is stale is copied
abbrev pub settled : SceneModel Sight → List Sight → SceneModel Sight
settled s owns = record s { glasses = owns }
