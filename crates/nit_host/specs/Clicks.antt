-- Clicks, by what the last look before them showed.
use Rattle.std.specs.Prelude.{◌≡◌, ℕ, true, List, [], ◌∷◌, ◌++◌, Option, Some, None}
use Rattle.nit_host.specs.Below.{State, is_button, option_map, owner_of, point, session}
use Rattle.nit_events.specs.declared.device.Device.TheVariants as device
use Rattle.nit_events.specs.declared.event.Status.TheVariants as status
use Rattle.nit_host.specs.Acts.{Act, Comes, Looks, after_acts}
use Rattle.nit_host.specs.Host.{HostModel, unserved_input}
use Rattle.nit_host.specs.Seats.{unseated}

-- none of these acts is a look
abbrev pub IsNoLook : Act → Type 0
IsNoLook Looks = ⊥
IsNoLook other = Unit {0}

abbrev pub HasNoLook : List Act → Type 0
HasNoLook [] = Unit {0}
HasNoLook (act ∷ rest) = IsNoLook act × HasNoLook rest

-- the host behind these acts, a look, and more acts
abbrev pub after_look : HostModel → List Act → List Act → HostModel
after_look h acts rest = after_acts h (acts ++ Looks ∷ rest)

-- the host serves the press of a button, where nothing is held
pub record TakesClick (h : HostModel) (k : ℕ) : Type 0 where
  pub button : is_button k ≡ true
  pub free : h.state.input.held ≡ []
  pub served : unserved_input h (device.Press k) ≡ None

-- the seat whose client owned, in the state `old`, the pixel where the pointer is in `now`
abbrev pub owner_then : State → State → Option ℕ
owner_then old now =
    option_map (λ v. v.sid) (owner_of old (point now.input.x now.input.y))

-- a client has come to this seat since the look behind `acts`, by one of the acts `rest`
pub record CameSince (h : HostModel) (acts rest : List Act) (seat : ℕ) : Type 0 where
  pub before : List Act
  pub label : List ℕ
  pub after : List Act
  pub act : rest ≡ before ++ Comes seat label ∷ after
  pub seated : unseated (after_look h acts before) seat label ≡ None

-- The look behind `acts` showed this seat's client where the pointer is behind `rest`, and nobody
-- has come to the seat since, so that it is the same client.
pub record WasShown (h : HostModel) (acts rest : List Act) (seat : ℕ) : Type 0 where
  pub pixel : owner_then (after_acts h acts).state (after_look h acts rest).state ≡ Some seat
  pub client : CameSince h acts rest seat → ⊥

-- the user has locked the seat's client out
abbrev pub IsLockedOut : State → ℕ → Type 0
IsLockedOut s seat = (session s seat).status ≡ status.Killed
