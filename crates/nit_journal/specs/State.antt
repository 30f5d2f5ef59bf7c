-- The state that the entries of a journal lead to.
use Rattle.std.specs.Prelude.{ℕ, Bool, false, List, [], ◌∷◌, map, slice_index_or, slice_set, Option}
use Rattle.std.specs.Prelude.{Some, None, option_map, if◌then◌else◌, ◌≡◌, ◌⊎◌, true}
use Rattle.nit_journal.specs.Below.{Call, Close, Configuration, Delivery, Device, Entry, Flat}
use Rattle.nit_journal.specs.Below.{InputState, PixelSource, Point, Reply, Routing, Size, Xray}
use Rattle.nit_journal.specs.Below.{bar_rows, first_input, forget, is_button, member, owner, point}
use Rattle.nit_journal.specs.Below.{pointer_after, routing, source}
use Rattle.nit_events.specs.declared.device.Device.TheVariants as device
use Rattle.nit_events.specs.declared.entry.Entry.TheVariants as entry
use Rattle.nit_stack.specs.declared.view.View.{View}
use Rattle.nit_journal.specs.Session.{Session, first_session, serve, receive}
use Rattle.nit_journal.specs.StackAfter.{is_accepted, stack_after_call, after_deliveries}

-- the configuration, which no entry changes; a machine for each session; all views, front first;
-- and the state of the user's input
pub record State : Type 0 where
  pub config : Configuration
  pub sessions : List Session
  pub stack : List View
  pub input : InputState

-- before the first entry
abbrev pub first_state : Configuration → State
first_state config =
    record {
      config = config;
      sessions = map (λ m. first_session m.donation) config.clients;
      stack = [];
      input = first_input;
    }

-- a session of the state; one without a donation where there is none
abbrev pub session_in : List Session → ℕ → Session
session_in sessions sid = slice_index_or sessions sid (first_session 0)

abbrev pub session : State → ℕ → Session
session s sid = session_in s.sessions sid

-- the layer of a session's views
abbrev pub layer : Configuration → ℕ → ℕ
layer config sid = (member config sid).layer

-- the size of a session's buffer
abbrev pub buffer_size : List Session → ℕ → Size
buffer_size sessions sid =
    record { w = (session_in sessions sid).bw; h = (session_in sessions sid).bh }

-- the view that owns a pixel, and where the pixel's word comes from
abbrev pub owner_of : State → Point → Option View
owner_of s p = owner (bar_rows s.config) s.stack p

-- The user presses a button on a pixel of this session, in mode Flat or Xray, and the session takes
-- the focus by clicks.
abbrev pub IsClickAt : State → Device → ℕ → Type 0
IsClickAt s dev x =
    (k : ℕ) × (dev ≡ device.Press k) × (is_button k ≡ true)
    × ((s.input.mode ≡ Flat) ⊎ (s.input.mode ≡ Xray))
    × (option_map (λ v. v.sid) (owner_of s (point s.input.x s.input.y)) ≡ Some x)
    × ((member s.config x).clicks ≡ true)

abbrev pub source_of : State → Point → PixelSource
source_of s p = source (buffer_size s.sessions) (bar_rows s.config) s.stack p

-- ---- one entry

-- an accepted `Close` makes the input forget the session
abbrev pub input_after_call : ℕ → Call → Reply → InputState → InputState
input_after_call sid Close r i = if is_accepted r then forget i sid else i
input_after_call sid other r i = i

-- a click on the pointed session moves the focus
abbrev pub clicks_on : Configuration → Option ℕ → Bool
clicks_on config None = false
clicks_on config (Some sid) = (member config sid).clicks

-- how a device event is routed: the pointer moves first, and the pointed session is that of the
-- owner of the pixel under it
unfoldable pub route : Configuration → InputState → List View → Device → Routing
route config i stack dev =
    let moved = pointer_after config.width config.height i dev in
    let pointed = option_map (λ v. v.sid) (owner (bar_rows config) stack (point moved.x moved.y)) in
    routing (clicks_on config pointed) pointed moved dev

-- each delivery is an item of its session, in order
abbrev pub delivered : List Delivery → List Session → List Session
delivered [] sessions = sessions
delivered (d ∷ ds) sessions =
    delivered ds (slice_set sessions d.sid (receive (session_in sessions d.sid) d.item))

abbrev pub routed_to : Routing → State → State
routed_to r s =
    record s {
      sessions = delivered r.deliveries s.sessions;
      stack = after_deliveries r.deliveries s.stack;
      input = r.state;
    }

-- the state after an entry; a picture changes nothing
abbrev pub after : State → Entry → State
after s (entry.Call sid call r) =
    record s {
      sessions = slice_set s.sessions sid (serve (session s sid) call).session;
      stack = stack_after_call (layer s.config) sid call r s.stack;
      input = input_after_call sid call r s.input;
    }
after s (entry.Input dev routed) = routed_to (route s.config s.input s.stack dev) s
after s (entry.Shot number) = s
after s entry.Final = s
