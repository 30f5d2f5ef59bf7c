-- A part of the frame that is copied.
use Rattle.std.specs.Prelude.{ℕ, ◌+◌, ◌&&◌, nat_le, not, Bool, Option, Some, None, if◌then◌else◌}
use Rattle.nit_host.specs.Below.{Area, Uncopied, has_room}
use Rattle.nit_host.specs.Host.{HostModel}
use Rattle.nit_host.specs.declared.refusal.Uncopied.TheVariants as uncopied_for

-- the area with its left upper pixel at this column and row, so many pixels wide and high
abbrev pub area_at : ℕ → ℕ → ℕ → ℕ → Area
area_at x y w h = record { left = x; top = y; right = x + w; bottom = y + h }

-- it does not reach beyond a screen of this width and height
abbrev pub is_on : ℕ → ℕ → Area → Bool
is_on width height a = nat_le a.right width && nat_le a.bottom height

-- the area, where it does not reach beyond the screen
abbrev pub area_on : ℕ → ℕ → Area → Option Area
area_on width height a = if is_on width height a then Some a else None

-- why an area of the frame is not put among so many words, if it is not
abbrev pub uncopied : HostModel → Area → ℕ → ℕ → Option Uncopied
uncopied h a pitch words =
    let config = h.state.config in
    if not (is_on config.width config.height a) then Some uncopied_for.BadRect
    else if not (has_room a pitch words) then Some uncopied_for.WrongFrame
    else None
