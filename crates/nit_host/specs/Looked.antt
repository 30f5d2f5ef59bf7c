-- What the last look at a host left.
use Rattle.std.specs.Prelude.{◌≡◌, ◌<◌, ℕ, Bool, List, Option, Some, None, length, true}
use Rattle.nit_host.specs.Area.{StaysOutside, is_inside}
use Rattle.nit_host.specs.Below.{DesktopModel, State, pixel_count}
use Rattle.nit_host.specs.Fresh.{sheets_of}
use Rattle.nit_host.specs.Host.{frame_by}
use Rattle.nit_host.specs.Sheet.{SheetModel}

-- the frame that a desktop shows by these sheets
abbrev pub frame_at : DesktopModel → List SheetModel → List ℕ
frame_at d sheets = frame_by d.state (sheets_of sheets)

-- the test holds of all pixels that have changed since the last look, and before the first one of
-- all pixels
abbrev pub IsSeenBut : State → List (List ℕ) → (ℕ → ℕ → Bool) → Option (List ℕ) → Type 0
IsSeenBut s sheets test None =
    (k : ℕ) → k < pixel_count s → is_inside s.config.width test k ≡ true
IsSeenBut s sheets test (Some seen) =
    (length seen ≡ pixel_count s)
    × StaysOutside s.config.width (pixel_count s) test seen (frame_by s sheets)
