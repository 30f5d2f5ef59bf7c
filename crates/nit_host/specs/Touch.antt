-- What of the frame a call of a seat's client can change.
use Rattle.std.specs.Prelude.{ℕ, ℤ, Bool, true, false, ◌&&◌, ◌≡◌, ◌<◌, Option, Some, None, List}
use Rattle.std.specs.Prelude.{All, slice_get, if◌then◌else◌}
use Rattle.nit_host.specs.Below.{Area, Call, Delivery, IsAreaOf, Mode, Point, Rectangle, Reply}
use Rattle.nit_host.specs.Below.{State, Touch, View, bar_rows, buffer_place, covers, has_any}
use Rattle.nit_host.specs.Below.{has_place, in_bar, is_rectangle, is_session, is_view, kills, point}
use Rattle.nit_host.specs.Below.{rectangle, refusal, session, spans}
use Rattle.nit_events.specs.declared.call.Call.TheVariants as call
use Rattle.nit_events.specs.declared.device.Mode.TheVariants as mode
use Rattle.nit_host.specs.declared.host.touch.Touch.TheVariants as touch

-- a part of a buffer, and the screen where there is no such part
abbrev pub part_touched : ℤ → ℤ → ℕ → ℕ → Touch
part_touched x y w h =
    if is_rectangle x y w h then touch.Part (rectangle x y w h) else touch.Screen

-- what an accepted call can change in mode Flat
abbrev pub touched_by : Call → Touch
touched_by (call.Place v x y w h) = touch.View v
touched_by (call.Offset v ox oy) = touch.View v
touched_by (call.Front v) = touch.View v
touched_by (call.Back v) = touch.View v
touched_by (call.Above v n) = touch.View v
touched_by (call.Destroy v) = touch.View v
touched_by (call.Buffer w h) = touch.Views
touched_by call.Close = touch.Views
touched_by (call.Refresh x y w h) = part_touched x y w h
touched_by other = touch.Nothing

-- what it can change in the modes that draw labels: a change of the views may move them
abbrev pub touched_over : Call → Touch
touched_over (call.Buffer w h) = touch.Views
touched_over (call.Refresh x y w h) = part_touched x y w h
touched_over call.Take = touch.Nothing
touched_over (call.Upgrade n) = touch.Nothing
touched_over other = touch.Screen

-- a call can move views, or make or end them
abbrev pub moves_views : Call → Bool
moves_views (call.Buffer w h) = false
moves_views (call.Refresh x y w h) = false
moves_views call.Take = false
moves_views (call.Upgrade n) = false
moves_views other = true

-- what it can change in a mode
abbrev pub touched_in : Mode → Call → Touch
touched_in mode.Flat call = touched_by call
touched_in other call = touched_over call

-- a refused call changes nothing
abbrev pub touched_unless : Option Reply → Mode → Call → Touch
touched_unless None m call = touched_in m call
touched_unless (Some why) m call = touch.Nothing

-- what a call of a seat's client can change
abbrev pub touch_of : State → ℕ → Call → Touch
touch_of s seat call = touched_unless (refusal (session s seat) call) s.input.mode call

-- the pixel of a view shows a place of this part of the buffer
abbrev pub shows_place : Rectangle → View → Point → Bool
shows_place part v p =
    spans part.x part.w (buffer_place p.x v.rect.x v.ox)
    && spans part.y part.h (buffer_place p.y v.rect.y v.oy)

-- a view of the seat is touched at a pixel
abbrev pub is_touched : Touch → ℕ → View → Point → Bool
is_touched touch.Nothing seat v p = false
is_touched (touch.View handle) seat v p = is_view seat handle v && covers v.rect p
is_touched touch.Views seat v p = is_session seat v && covers v.rect p
is_touched (touch.Part part) seat v p =
    is_session seat v && (covers v.rect p && shows_place part v p)
is_touched touch.Screen seat v p = true

-- a pixel is touched where no view is
abbrev pub is_touched_bare : Touch → State → Point → Bool
is_touched_bare touch.Views s p = in_bar (bar_rows s.config) p
is_touched_bare touch.Screen s p = true
is_touched_bare other s p = false

-- the test holds of all pixels of the screen that are touched as the views stand
pub record HoldsTouched (s : State) (seat : ℕ) (t : Touch) (test : ℕ → ℕ → Bool) : Type 0 where
  pub bare : (x y : ℕ) → x < s.config.width → y < s.config.height
      → is_touched_bare t s (point x y) ≡ true → test x y ≡ true
  pub views : (i x y : ℕ) (v : View) → slice_get s.stack i ≡ Some v → x < s.config.width
      → y < s.config.height → is_touched t seat v (point x y) ≡ true → test x y ≡ true

-- areas of the screen with all pixels of the old ones and all that are touched
pub record HasTouched (s : State) (seat : ℕ) (t : Touch) (old new : List Area) : Type 0 where
  pub screen : All (IsAreaOf s.config.width s.config.height) old
      → All (IsAreaOf s.config.width s.config.height) new
  pub own : (x y : ℕ) → has_any old x y ≡ true → has_any new x y ≡ true
  pub touched : HoldsTouched s seat t (has_any new)

-- the test holds of the status bar of a screen of this size; in other modes than Flat of all of it
abbrev pub HoldsBarIn : Mode → ℕ → ℕ → ℕ → (ℕ → ℕ → Bool) → Type 0
HoldsBarIn mode.Flat width height rows test =
    (x y : ℕ) → x < width → y < height → in_bar rows (point x y) ≡ true → test x y ≡ true
HoldsBarIn other width height rows test =
    (x y : ℕ) → x < width → y < height → test x y ≡ true

abbrev pub HoldsBar : State → (ℕ → ℕ → Bool) → Type 0
HoldsBar s test = HoldsBarIn s.input.mode s.config.width s.config.height (bar_rows s.config) test

-- an area of the screen with all that the bar and the mode draw
pub record IsBarArea (s : State) (a : Area) : Type 0 where
  pub area : IsAreaOf s.config.width s.config.height a
  pub bar : HoldsBar s (has_place a)

-- such an area, which is the whole screen where one of these deliveries locks a client out
pub record IsToldArea (s : State) (told : List Delivery) (a : Area) : Type 0 where
  pub area : IsAreaOf s.config.width s.config.height a
  pub bar : HoldsBar s (has_place a)
  pub screen : kills told ≡ true → (x y : ℕ) → x < s.config.width → y < s.config.height
      → has_place a x y ≡ true
