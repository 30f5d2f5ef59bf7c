-- Whom the user's input reaches.
use Rattle.std.specs.Prelude.{◌≡◌, ◌⊎◌, ℕ, ◌==◌, Bool, ◌&&◌, ◌||◌, not, Option, Some, option_map}
use Rattle.nit_journal.specs.Below.{Delivery, is_button, kill_key, point, xray_key}
use Rattle.nit_events.specs.declared.event.Event.TheVariants as event
use Rattle.nit_events.specs.declared.event.Item.TheVariants as item
use Rattle.nit_journal.specs.State.{State, owner_of}

-- a key that switches the mode
abbrev pub is_mode_key : ℕ → Bool
is_mode_key k = k == xray_key || k == kill_key

-- a code that is neither a button's nor a mode key's
abbrev pub is_key : ℕ → Bool
is_key k = not (is_button k) && not (is_mode_key k)

-- the session that owns the pixel under the pointer
abbrev pub under_pointer : State → Option ℕ
under_pointer s = option_map (λ v. v.sid) (owner_of s (point s.input.x s.input.y))

-- the session that the pointer was on is told that it has left
abbrev pub TellsLeave : State → Delivery → Type 0
TellsLeave s d = (d.item ≡ item.Event event.Leave) × (s.input.hover ≡ Some d.sid)

-- the focused session is told that it has lost the focus, or the one under the pointer that it has
-- it now
abbrev pub TellsFocus : State → Delivery → Type 0
TellsFocus s d =
    ((d.item ≡ item.Event event.FocusLeave) × (s.input.focus ≡ Some d.sid))
    ⊎ ((d.item ≡ item.Event event.FocusEnter) × (under_pointer s ≡ Some d.sid))

-- the session under the pointer is locked out
abbrev pub KillsPointed : State → Delivery → Type 0
KillsPointed s d = (d.item ≡ item.Kill) × (under_pointer s ≡ Some d.sid)
