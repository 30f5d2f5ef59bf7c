-- A run in a room: what it begins with, with its clients beside each other or one alone, and what
-- its user knows at its end.
use Rattle.std.specs.Prelude.{◌∷◌, ◌≡◌, ◌++◌, ℕ, ◌*◌, ◌≤◌, List, [], All, length, map, slice_get}
use Rattle.std.specs.Prelude.{Some, vec_len, vec_capacity}
use Rattle.nit_perform.specs.Below.{Belongs, BufferName, Configuration, End, Entry, InputLine}
use Rattle.nit_perform.specs.Below.{IsOpen, Line, Member, Memory, OpeningParts, PassModel}
use Rattle.nit_perform.specs.Below.{RoomModel, StepTogether, UserBelongs, UserPassModel}
use Rattle.nit_perform.specs.Below.{donation_of, idle_user, new_sight, picture_length, script_in}
use Rattle.nit_perform.specs.Below.{user_actions_of}

-- the key of this number is to words 0, one for each place of the table of its session, with the
-- ink of its script
abbrev pub AreKeysBlank : Configuration → List (List Line) → List End → Type 0
AreKeysBlank config scripts keys = (k : ℕ) (key : End) → slice_get keys k ≡ Some key
    → key.sight ≡ new_sight k (script_in scripts k) (donation_of config k)

-- there is a buffer for each client, in order, and its key, over words 0
pub record AreBuffers (config : Configuration) (scripts : List (List Line))
    (buffers : List BufferName) (keys : List End) : Type 0 where
  pub each : length keys ≡ length config.clients
  pub own : map (λ (key : End). key.stand.buffer) keys ≡ buffers
  pub blank : AreKeysBlank config scripts keys

-- A flag for each client, room for what all clients' threads are given to wait, and a word and
-- bytes
-- for each pixel of the screen.
pub record IsMemory {T : Type 0} (config : Configuration) (m : Memory T) : Type 0 where
  pub flags : vec_len m.raised ≡ length config.clients
  pub waiting : m.waiting.items ≡ []
  pub room : length config.clients ≤ vec_capacity m.waiting
  pub frame : length m.frame.items ≡ config.width * config.height
  pub text : length m.text.items ≡ picture_length config.width config.height

-- that memory, beside the configuration's clients
pub record IsSupplied {T : Type 0} (config : Configuration) (m : Memory T)
    (clients : List Member) : Type 0 where
  pub memory : IsMemory config m
  pub clients_are : clients ≡ config.clients

-- The run of this opening can begin: its journal is open; there is a pass for each client, in
-- order, and the user's, who knows nothing yet.
pub record IsReady (parts : OpeningParts) (r : RoomModel) (ps : List PassModel)
    (u : UserPassModel) : Type 0 where
  pub parts_are : r.parts ≡ parts
  pub open_now : IsOpen r.scene.entries
  pub clients : length parts.scripts ≡ length parts.config.clients
  pub each : length ps ≡ length parts.scripts
  pub belong : All (Belongs parts) ps
  pub numbers : (k : ℕ) (p : PassModel) → slice_get ps k ≡ Some p → p.sid ≡ k
  pub user_belongs : UserBelongs parts u
  pub fresh : u.seen ≡ []

-- what the user knew last has all of the user's entries in the journal
abbrev pub IsKnownWhole : List Entry → List Entry → Type 0
IsKnownWhole known journal =
    (rest : List Entry) × (journal ≡ known ++ rest) × (user_actions_of rest ≡ [])

-- there is one client, and the user does nothing but end the client's phases
abbrev pub IsAlone : List (List Line) → List InputLine → Type 0
IsAlone scripts lines =
    (script : List Line) × (scripts ≡ script ∷ []) × (lines ≡ idle_user script)

-- The run of this opening can begin, it has one client whose user does nothing, and no actor has
-- done a line.
pub record IsReadyAlone (parts : OpeningParts) (r : RoomModel) (ps : List PassModel)
    (u : UserPassModel)
    : Type 0 where
  pub ready : IsReady parts r ps u
  pub alone : IsAlone parts.scripts parts.input
  pub one_client : length parts.config.clients ≡ 1
  pub step : (p : PassModel) → slice_get ps 0 ≡ Some p → StepTogether r p u
