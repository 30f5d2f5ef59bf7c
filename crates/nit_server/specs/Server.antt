-- All sessions and their views, without the pixels: what contracts see of a server, and what holds
-- of it.
use Rattle.std.specs.Prelude.{◌≡◌, ℕ, ◌+◌, ◌*◌, ◌<◌, ◌≤◌, List, [], length, map, sum}
use Rattle.std.specs.Prelude.{slice_index_or, Some}
use Rattle.nit_server.specs.Below.{AllOfInput, Call, Configuration, InputState, IsConfiguration}
use Rattle.nit_server.specs.Below.{IsNamedBy, IsStack, MeanSame, Reply, Session, Size, SlotView}
use Rattle.nit_server.specs.Below.{SlotsModel, StackModel, State, after, bar_rows, first_session}
use Rattle.nit_server.specs.Below.{has_slot, is_slot_taken, member, name_in, room, serve, session}
use Rattle.nit_server.specs.Below.{session_in, slot_of, table_size, view_slots, views_of}
use Rattle.nit_server.specs.Below.{Buffer, Refresh, Take, Upgrade}
use Rattle.nit_events.specs.declared.entry.Entry.TheVariants as entry
use Rattle.nit_server.specs.KeptSession.{IsPaid, KeptSessionModel}

-- the configuration, the machine of each session, all views with their slots, and the state of the
-- user's input
pub record ServerModel : Type 0 where
  pub config : Configuration
  pub sessions : List Session
  pub stack : StackModel
  pub input : InputState

-- the state that a server is in, which knows no slots
abbrev pub state_of : ServerModel → State
state_of s =
    record {
      config = s.config;
      sessions = s.sessions;
      stack = views_of s.stack.views;
      input = s.input;
    }

-- the size of a session's buffer
abbrev pub size_of_buffer : Session → Size
size_of_buffer s = record { w = s.bw; h = s.bh }

-- What holds of every server: its stack is one of the configuration's screen and of the sessions'
-- buffers, with room for all views that the clients may ever have; each buffer is within its
-- session's table of pixels; and the input knows no other sessions.
pub record IsServer (s : ServerModel) : Type 0 where
  pub configured : IsConfiguration s.config
  pub standing : IsStack s.stack
  pub screen : (s.stack.width ≡ s.config.width) × (s.stack.height ≡ s.config.height) ×
      (s.stack.bar ≡ bar_rows s.config)
  pub each : length s.sessions ≡ length s.config.clients
  pub sizes : s.stack.sizes ≡ map size_of_buffer s.sessions
  pub known : AllOfInput (λ t. t < length s.config.clients) s.input
  pub most : s.stack.most ≡ sum (map (λ m. view_slots m.donation) s.config.clients)
  pub within : (t : ℕ) → t < length s.sessions → (session_in s.sessions t).bw *
      (session_in s.sessions t).bh ≤ table_size (member s.config t).donation

-- a call that changes no view, nor which views there are
abbrev pub KeepsViews : Call → Type 0
KeepsViews (Buffer w h) = Unit {0}
KeepsViews (Refresh x y w h) = Unit {0}
KeepsViews Take = Unit {0}
KeepsViews (Upgrade n) = Unit {0}
KeepsViews other = ⊥

-- a call of a session was served: its reply is its machine's, the state is the one after it, each
-- view of the session keeps its slot, and all views stay where the call changes none
pub record IsServed (sid : ℕ) (call : Call) (reply : Reply)
    (before after' : ServerModel) : Type 0 where
  pub replied : reply ≡ (serve (session (state_of before) sid) call).reply
  pub state : state_of after' ≡ after (state_of before) (entry.Call sid call reply)
  pub named : (k handle : ℕ) → IsNamedBy k sid handle before.stack.views
      → MeanSame k sid handle after'.stack.views
  pub seats : KeepsViews call → after'.stack.views ≡ before.stack.views

-- ---- inside

-- where there is no member
abbrev pub no_kept_session : KeptSessionModel
no_kept_session = record { session = first_session 0; pairs = []; most = 0 }

abbrev pub kept_session_at : List KeptSessionModel → ℕ → KeptSessionModel
kept_session_at members t = slice_index_or members t no_kept_session

-- the views of each session, each as its handle and its slot
abbrev pub pairs_of : List KeptSessionModel → ℕ → List (ℕ × ℕ)
pairs_of members t = (kept_session_at members t).pairs

-- a server by its parts
abbrev pub server_of : Configuration → StackModel → List KeptSessionModel → InputState
    → ServerModel
server_of config stack members user =
    record { config = config; sessions = map (λ m. m.session) members; stack = stack; input = user }

-- each handle of a session is the name of the view in its slot, each view in a slot is one of a
-- session's handles, and the slots that are taken are those with a view
pub record AreSlotsNamed (pairs : ℕ → List (ℕ × ℕ)) (count : ℕ) (views : List SlotView)
    (slots : SlotsModel) : Type 0 where
  pub named : (t handle k : ℕ) → t < count → slot_of (pairs t) handle ≡ Some k → name_in k views
      ≡ Some (t, handle)
  pub kept : (t handle k : ℕ) → name_in k views ≡ Some (t, handle) → (t < count) ×
      (slot_of (pairs t) handle ≡ Some k)
  pub taken : (k : ℕ) → is_slot_taken slots k ≡ has_slot k views

-- the account of a session is the one of its client, and it has places for the views that its
-- client may ever have
pub record IsSessionOfClient (donation : ℕ) (m : KeptSessionModel) : Type 0 where
  pub sum : m.session.donation + m.session.reserve ≡ room donation
  pub paid : IsPaid m.session
  pub most : m.most ≡ view_slots donation
  pub few : length m.pairs ≤ m.most

-- what holds of the parts of a server
pub record AreServerParts (config : Configuration) (stack : StackModel)
    (members : List KeptSessionModel)
    (slots : SlotsModel) : Type 0 where
  pub configured : IsConfiguration config
  pub standing : IsStack stack
  pub screen : (stack.width ≡ config.width) × (stack.height ≡ config.height) ×
      (stack.bar ≡ bar_rows config)
  pub layers : stack.layers ≡ map (λ m. m.layer) config.clients
  pub each : length members ≡ length config.clients
  pub sizes : stack.sizes ≡ map (λ m. size_of_buffer m.session) members
  pub clients : (t : ℕ) → t < length members → IsSessionOfClient (member config t).donation
      (kept_session_at members t)
  pub seated : AreSlotsNamed (pairs_of members) (length members) stack.views slots
  pub counted : length slots.taken ≡ sum (map (λ m. length m.pairs) members)
  pub places : (slots.total ≡ stack.most) × (slots.total ≡ sum
      (map (λ m. view_slots m.donation) config.clients))
