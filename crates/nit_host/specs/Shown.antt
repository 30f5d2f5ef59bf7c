-- What is remembered of the last look, and whether a click goes where the user saw it go.
use Rattle.std.specs.Prelude.{ℕ, Bool, true, false, ◌&&◌, not, ◌==◌, List, [], ◌∷◌, replicate}
use Rattle.std.specs.Prelude.{slice_index_or, Option, Some, None}
use Rattle.nit_host.specs.Below.{Device, Point, State, View, bar_rows, is_button, most_sessions}
use Rattle.nit_host.specs.Below.{option_map, owner, point, under_pointer}
use Rattle.nit_events.specs.declared.device.Device.TheVariants as device

-- the frame of the last look, where there was one; the views as they stood, front first; and for
-- each seat that there may be, whether a client has come to it since
pub record LastLook : Type 0 where
  pub frame : Option (List ℕ)
  pub views : List View
  pub came : List Bool

-- nobody has come to any seat
abbrev pub nobody_came : List Bool
nobody_came = replicate most_sessions false

-- before the first look nothing was shown
abbrev pub no_look : LastLook
no_look = record { frame = None; views = []; came = nobody_came }

-- the view that owned a pixel as the last look had it
abbrev pub shown_owner : LastLook → State → Point → Option View
shown_owner seen s p = owner (bar_rows s.config) seen.views p

-- the seat that the last look showed under the pointer as it is now
abbrev pub shown_under_pointer : LastLook → State → Option ℕ
shown_under_pointer seen s =
    option_map (λ v. v.sid) (shown_owner seen s (point s.input.x s.input.y))

-- the client that a seat had at the last look is the one that this seat has now; or both are nobody
abbrev pub is_same_client : List Bool → Option ℕ → Option ℕ → Bool
is_same_client came None None = true
is_same_client came None (Some now) = false
is_same_client came (Some seat) None = false
is_same_client came (Some seat) (Some now) = seat == now && not (slice_index_or came seat true)

-- the client under the pointer is the one that the last look showed there
abbrev pub is_as_shown : LastLook → State → Bool
is_as_shown seen s = is_same_client seen.came (shown_under_pointer seen s) (under_pointer s)

-- no code is held
abbrev pub holds_nothing : List ℕ → Bool
holds_nothing [] = true
holds_nothing (k ∷ held) = false

-- a button, pressed where nothing is held, would go to another client than the user saw
abbrev pub is_moved : LastLook → State → Device → Bool
is_moved seen s (device.Press k) =
    is_button k && (holds_nothing s.input.held && not (is_as_shown seen s))
is_moved seen s other = false
