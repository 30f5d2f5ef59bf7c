-- Where the user's input goes at a server.
use Rattle.std.specs.Prelude.{◌≡◌, ℕ, ◌+◌, ◌<◌, ◌^◌, false, List, [], length, slice_index_or}
use Rattle.std.specs.Prelude.{Option, Some, None, option_map}
use Rattle.nit_server.specs.Below.{AllOfInput, Configuration, Delivery, Device, FocusModel, Item}
use Rattle.nit_server.specs.Below.{Member, Routing, bar_rows, delivered, member, owner, point}
use Rattle.nit_server.specs.Below.{pointer_after, route, session_in, views_of}
use Rattle.nit_events.specs.declared.event.Item.TheVariants as item
use Rattle.nit_server.specs.Server.{ServerModel}

-- the screen and the settings are those of the configuration, and no session is known but those of
-- its clients
pub record IsServerInput (config : Configuration) (focus : FocusModel) : Type 0 where
  pub screen : (focus.width ≡ config.width) × (focus.height ≡ config.height)
  pub clicks : (t : ℕ) → t < length config.clients → slice_index_or focus.clicks t false ≡
      (member config t).clicks
  pub known : AllOfInput (λ t. t < length config.clients) focus.input

-- the client of a session, by the list of all
abbrev pub client_in : List Member → ℕ → Member
client_in clients t =
    slice_index_or clients t
    (record { label = []; donation = 0; script = []; layer = 0; clicks = false })

-- the session of the view that owns the pixel under the pointer, once a device event has moved it
abbrev pub pointed_by : ServerModel → Device → Option ℕ
pointed_by s dev =
    let moved = pointer_after s.config.width s.config.height s.input dev in
    option_map (λ v. v.sid) (owner (bar_rows s.config) (views_of s.stack.views)
    (point moved.x moved.y))

-- what a device event leaves of the input, and what it delivers
abbrev pub routing_of : ServerModel → Device → Routing
routing_of s dev = route s.config s.input (views_of s.stack.views) dev

-- a device event is routed, and nothing is delivered yet
abbrev pub with_routed : Device → ServerModel → ServerModel
with_routed dev s = record s { input = (routing_of s dev).state }

-- the sessions have got these deliveries
abbrev pub with_delivered : List Delivery → ServerModel → ServerModel
with_delivered ds s = record s { sessions = delivered ds s.sessions }

-- each session may lose so many events more
abbrev pub MayLose : ℕ → ServerModel → Type 0
MayLose n s = (t : ℕ) → (session_in s.sessions t).lost + n < 2 ^ 64

-- the session that is locked out by an item that goes to it
abbrev pub killed_by : ℕ → Item → Option ℕ
killed_by sid item.Kill = Some sid
killed_by sid (item.Event e) = None

-- the session that is locked out by a delivery
abbrev pub killed_in : Option Delivery → Option ℕ
killed_in None = None
killed_in (Some d) = killed_by d.sid d.item
