-- What a journal says of each session by itself.
use Rattle.std.specs.Prelude.{◌≡◌, ℕ, ◌<◌, ◌++◌, ◌∷◌, List, length}
use Rattle.nit_scene.specs.Below.{Configuration, Entry, Gets, IsDown, Observation, alone, member}
use Rattle.nit_scene.specs.Below.{projection, replies_to}
use Rattle.nit_events.specs.declared.event.Event.TheVariants as event
use Rattle.nit_events.specs.declared.event.Item.TheVariants as item

-- each session got the replies of a machine that serves it alone
abbrev pub AreAlone : Configuration → List Entry → Type 0
AreAlone config journal =
    (s : ℕ) → s < length config.clients
    → replies_to s journal ≡ alone (member config s).donation (projection s journal)

-- each release that was routed to a session follows a press of the same code, with no release of it
-- between
abbrev pub FollowPresses : List Entry → Type 0
FollowPresses journal =
    (s k : ℕ) (before rest : List Observation)
    → projection s journal ≡ before ++ Gets (item.Event (event.Release k)) ∷ rest
    → IsDown k before
