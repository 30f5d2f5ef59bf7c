-- The presses and releases that a session gets.
use Rattle.std.specs.Prelude.{◌≡◌, ℕ, ◌==◌, Bool, false, List, ◌∷◌, ◌++◌}
use Rattle.nit_journal.specs.Below.{list_any}
use Rattle.nit_events.specs.declared.event.Event.TheVariants as event
use Rattle.nit_events.specs.declared.event.Item.TheVariants as item
use Rattle.nit_journal.specs.Projection.{Observation, Gets}

-- the session gets the release of this code
abbrev pub is_release : ℕ → Observation → Bool
is_release k (Gets (item.Event (event.Release j))) = j == k
is_release k other = false

-- the code is down for the session: it got the press of it, and no release of it since then
abbrev pub IsDown : ℕ → List Observation → Type 0
IsDown k moments =
    (early late : List Observation) × (moments ≡ early ++ Gets (item.Event (event.Press k)) ∷ late)
    × (list_any (is_release k) late ≡ false)
