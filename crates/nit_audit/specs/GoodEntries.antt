-- Entries that a run may have made so far.
use Rattle.std.specs.Prelude.{◌≡◌, ℕ, ◌<◌, ◌≤◌, List, ◌∷◌, ◌++◌, map, length}
use Rattle.nit_audit.specs.Below.{Call, Configuration, Entry, InputLine, IsConfiguration, IsLegal}
use Rattle.nit_audit.specs.Below.{IsNonDecreasing, Line, UserAction, calls_of, calls_to_make, done}
use Rattle.nit_audit.specs.Below.{most_read, phases_along, to_do, user_actions_of}
use Rattle.nit_audit.specs.Below.{user_actions_to_do}
use mathlib.Core.List.{IsPrefix}
use Rattle.nit_events.specs.declared.entry.Entry.TheVariants as entry

-- the clients have made all their calls, and the user has done all
pub record IsAllDone
    (clients : List (List (ℕ × Call))) (user : List (ℕ × UserAction)) (entries : List Entry)
    : Type 0 where
  pub calls : (sid : ℕ) → sid < length clients → calls_of sid entries ≡ done (to_do clients sid)
  pub actions : user_actions_of entries ≡ done user

-- The entries are legal. The calls of each client are the first ones that it is to make, and the
-- device events and shots are the first ones that the user is to do. Their phases never fall. A
-- last picture is taken when all is done.
pub record IsGoodFor
    (config : Configuration) (clients : List (List (ℕ × Call))) (user : List (ℕ × UserAction))
    (entries : List Entry) : Type 0 where
  pub legal : IsLegal config entries
  pub calls : (sid : ℕ) → sid < length clients
      → IsPrefix (calls_of sid entries) (done (to_do clients sid))
  pub actions : IsPrefix (user_actions_of entries) (done user)
  pub phases : IsNonDecreasing (phases_along clients user entries)
  pub final : (front rest : List Entry) → entries ≡ front ++ entry.Final ∷ rest
      → IsAllDone clients user front

-- by the scripts of the clients and of the user
abbrev pub IsGood : Configuration → List (List Line) → List InputLine → List Entry → Type 0
IsGood config scripts input entries =
    IsGoodFor config (map calls_to_make scripts) (user_actions_to_do input) entries

-- The configuration is one, each client has a script, and there are not too many entries.
pub record CanAudit (config : Configuration) (scripts : List (List Line)) (entries : List Entry)
    : Type 0 where
  pub configured : IsConfiguration config
  pub each : length scripts ≡ length config.clients
  pub few : length entries ≤ most_read
