-- Whose a pixel of the screen is, and was as the last look had it.
use Rattle.std.specs.Prelude.{ℕ, Bool, ◌&&◌, nat_lt, Option, None, if◌then◌else◌}
use Rattle.nit_host.specs.Below.{Configuration, State, View, owner_of, point}
use Rattle.nit_host.specs.Host.{HostModel}
use Rattle.nit_host.specs.Shown.{shown_owner}

-- there is a pixel in this column and row
abbrev pub is_on_screen : Configuration → ℕ → ℕ → Bool
is_on_screen config x y = nat_lt x config.width && nat_lt y config.height

-- the view that owns the pixel in a column and a row, where these are on the screen
abbrev pub owner_on : State → ℕ → ℕ → Option View
owner_on s x y = if is_on_screen s.config x y then owner_of s (point x y) else None

-- the view that owned it as the last look had it
abbrev pub owner_shown : HostModel → ℕ → ℕ → Option View
owner_shown h x y =
    if is_on_screen h.state.config x y then shown_owner h.seen h.state (point x y) else None
