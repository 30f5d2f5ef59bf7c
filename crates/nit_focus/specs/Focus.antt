-- What a `Focus` stands for, and what a device event makes of it.
use Rattle.std.specs.Prelude.{◌≡◌, ℕ, ◌<◌, ◌≤◌, pos, Bool, true, false, List, length, replicate}
use Rattle.std.specs.Prelude.{slice_index_or, Option, Some, None, IfSome}
use Rattle.nit_focus.specs.Below.{Device, InputState, Point, Routing, first_input, most_height}
use Rattle.nit_focus.specs.Below.{most_sessions, most_width, pointer_after, routing}

-- the state of the user's input; the screen's size; and for each of 64 sessions whether a click on
-- it moves the focus
pub record FocusModel : Type 0 where
  pub input : InputState
  pub width : ℕ
  pub height : ℕ
  pub clicks : List Bool

-- before the user has done anything; a click on any session moves the focus
abbrev pub first_focus : ℕ → ℕ → FocusModel
first_focus width height =
    record {
      input = first_input;
      width = width;
      height = height;
      clicks = replicate most_sessions true;
    }

-- by this list, a click on the pointed session moves the focus
abbrev pub clicks_on_list : List Bool → Option ℕ → Bool
clicks_on_list clicks None = false
clicks_on_list clicks (Some sid) = slice_index_or clicks sid false

-- where the pointer is
abbrev pub pointer : InputState → Point
pointer i = record { x = pos i.x; y = pos i.y }

-- the state once the pointer has moved
abbrev pub with_pointer : FocusModel → Device → InputState
with_pointer f dev = pointer_after f.width f.height f.input dev

-- what a device event leaves and delivers, where the moved pointer points at this session
abbrev pub routing_at : FocusModel → Option ℕ → Device → Routing
routing_at f pointed dev =
    routing (clicks_on_list f.clicks pointed) pointed (with_pointer f dev) dev

-- this holds of the receiver, the hovered session and the focused one, where there are such
pub record AllOfInput (P : ℕ → Type 0) (i : InputState) : Type 0 where
  pub receiver : IfSome i.receiver P
  pub hover : IfSome i.hover P
  pub focus : IfSome i.focus P

-- the screen has a size that is allowed, the pointer is on it, and each session is one of 64
pub record IsFocus (f : FocusModel) : Type 0 where
  pub narrowest : 1 ≤ f.width
  pub widest : f.width ≤ most_width
  pub lowest : 1 ≤ f.height
  pub highest : f.height ≤ most_height
  pub column : f.input.x < f.width
  pub row : f.input.y < f.height
  pub settings : length f.clicks ≡ most_sessions
  pub sessions : AllOfInput (λ s. s < most_sessions) f.input
