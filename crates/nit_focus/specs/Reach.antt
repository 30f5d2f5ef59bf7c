-- Whom a device event reaches, and with what.
use Rattle.std.specs.Prelude.{◌≡◌, ◌≢◌, ◌⊎◌, ℕ, ◌<◌, Option, Some}
use Rattle.nit_events.specs.declared.event.Event.TheVariants as event
use Rattle.nit_focus.specs.Below.{InputState, IsEvent, Item}
use Rattle.nit_events.specs.declared.event.Item.TheVariants as item

-- the session is the receiver, the hovered, the focused or the pointed one
abbrev pub IsWithinReach : InputState → Option ℕ → ℕ → Type 0
IsWithinReach i pointed s =
    (i.receiver ≡ Some s) ⊎ (i.hover ≡ Some s) ⊎ (i.focus ≡ Some s) ⊎ (pointed ≡ Some s)

-- the numbers of an item are in range, and a motion is to a pixel of a screen of this size
abbrev pub IsItem : ℕ → ℕ → Item → Type 0
IsItem width height (item.Event (event.Motion x y)) = (x < width) × (y < height)
IsItem width height (item.Event other) = IsEvent other
IsItem width height item.Kill = Unit {0}

-- the session is not the receiver, the hovered or the focused one
pub record HasForgotten (i : InputState) (s : ℕ) : Type 0 where
  pub receiver : i.receiver ≢ Some s
  pub hover : i.hover ≢ Some s
  pub focus : i.focus ≢ Some s

-- a session that is killed is forgotten
abbrev pub IsForgottenIfKilled : InputState → ℕ → Item → Type 0
IsForgottenIfKilled i s item.Kill = HasForgotten i s
IsForgottenIfKilled i s (item.Event e) = Unit {0}
