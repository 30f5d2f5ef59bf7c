-- Calls by the pixels that they make dirty: those of one view, those of the session's views, or
-- none.
use Rattle.std.specs.Prelude.{◌≡◌, ℕ, Option, Some, None}
use Rattle.nit_screen.specs.Below.{Above, Back, Buffer, Call, Destroy, Front, Offset, Place}
use Rattle.nit_screen.specs.Below.{Rectangle, Refresh, Take, Title, Upgrade, rectangle}
use Rattle.nit_events.specs.declared.call.Call.TheVariants.{View}

-- a call on the session's view of this handle
abbrev pub IsOn : ℕ → Call → Type 0
IsOn handle (Place v x y w h) = v ≡ handle
IsOn handle (Offset v ox oy) = v ≡ handle
IsOn handle (Front v) = v ≡ handle
IsOn handle (Back v) = v ≡ handle
IsOn handle (Above v n) = v ≡ handle
IsOn handle (Destroy v) = v ≡ handle
IsOn handle other = ⊥

-- a call that asks for all pixels of its session's views, or for those that show this part of its
-- buffer
abbrev pub IsPartOf : Option Rectangle → Call → Type 0
IsPartOf part (Buffer w h) = part ≡ None
IsPartOf part (Refresh x y w h) = part ≡ Some (rectangle x y w h)
IsPartOf part other = ⊥

-- a call that makes no pixel dirty, but changes the views or their titles
abbrev pub IsClean : Call → Type 0
IsClean View = Unit {0}
IsClean (Title v text) = Unit {0}
IsClean other = ⊥

-- a call that changes nothing of what is shown
abbrev pub IsQuiet : Call → Type 0
IsQuiet Take = Unit {0}
IsQuiet (Upgrade n) = Unit {0}
IsQuiet other = ⊥
