-- What acts do to the focus, to the mode and to the codes that are held.
use Rattle.std.specs.Prelude.{◌≡◌, ◌≢◌, ◌⊎◌, ℕ, ◌==◌, Bool, true, ◌&&◌, ◌||◌, not, [], Some, IfSome}
use Rattle.nit_host.specs.Below.{Device, Flat, IsClickAt, Kill, State, Xray, is_button, is_mode_key}
use Rattle.nit_host.specs.Below.{kill_button, member, under_pointer}
use Rattle.nit_events.specs.declared.call.Call.TheVariants as call
use Rattle.nit_events.specs.declared.device.Device.TheVariants as device
use Rattle.nit_host.specs.Acts.{Act, Calls, Does}

-- ---- the focus

-- the act is the user's click on a pixel of this seat's client, which takes the focus by clicks;
-- nothing is held before it
abbrev pub IsClickBy : Act → State → ℕ → Type 0
IsClickBy (Does dev) s seat = IsClickAt s dev seat × (s.input.held ≡ [])
IsClickBy other s seat = ⊥

-- a click under the pointer moves the focus: no client has the pixel there, or the one that has it
-- takes the focus by clicks
abbrev pub IsTakenByClicks : State → Type 0
IsTakenByClicks s = IfSome (under_pointer s) (λ seat. (member s.config seat).clicks ≡ true)

-- The user clicks, and this seat's client loses the focus: nothing is held, a button goes down in
-- mode Flat or Xray, and the pixel under the pointer is another client's, which takes the focus by
-- clicks, or no client's.
pub record IsClickOff (s : State) (dev : Device) (seat : ℕ) : Type 0 where
  pub code : ℕ
  pub press : dev ≡ device.Press code
  pub button : is_button code ≡ true
  pub free : s.input.held ≡ []
  pub mode : (s.input.mode ≡ Flat) ⊎ (s.input.mode ≡ Xray)
  pub off : under_pointer s ≢ Some seat
  pub taken : IsTakenByClicks s

-- The user locks this seat's client out: nothing is held, and the button that kills goes down in
-- mode Kill over one of its pixels.
pub record IsKillClick (s : State) (dev : Device) (seat : ℕ) : Type 0 where
  pub press : dev ≡ device.Press kill_button
  pub free : s.input.held ≡ []
  pub mode : s.input.mode ≡ Kill
  pub on : under_pointer s ≡ Some seat

-- the act is the click that locks this seat's client out
abbrev pub IsKillBy : Act → State → ℕ → Type 0
IsKillBy (Does dev) s seat = IsKillClick s dev seat
IsKillBy other s seat = ⊥

-- the act takes the focus from this seat's client: it leaves, the user clicks elsewhere, or locks
-- it out
abbrev pub TakesFocus : Act → State → ℕ → Type 0
TakesFocus (Calls other asked) s seat = (other.seat ≡ seat) × (asked ≡ call.Close)
TakesFocus (Does dev) s seat = IsClickOff s dev seat ⊎ IsKillClick s dev seat
TakesFocus other s seat = ⊥

-- ---- the mode

-- the act switches the mode: nothing is held, and a mode key goes down, or in mode Kill the button
-- that kills
abbrev pub SwitchesMode : Act → State → Type 0
SwitchesMode (Does dev) s =
    (k : ℕ) × (dev ≡ device.Press k) × (s.input.held ≡ [])
    × ((is_mode_key k ≡ true) ⊎ ((k ≡ kill_button) × (s.input.mode ≡ Kill)))
SwitchesMode other s = ⊥

-- ---- what is held

-- Whether a code is held after a device event, by whether it was: a press holds it, unless it is a
-- mode key, and a release lifts it.
abbrev pub is_held_after : Device → ℕ → Bool → Bool
is_held_after (device.Press j) k was = was || (j == k && not (is_mode_key k))
is_held_after (device.Release j) k was = was && not (j == k)
is_held_after other k was = was
