-- What an audit keeps of a run, and what holds of it.
use Rattle.std.specs.Prelude.{◌≡◌, ℕ, ◌+◌, ◌*◌, ◌<◌, ◌≤◌, Bool, true, false, List, length, drop}
use Rattle.nit_audit.specs.Below.{Agrees, Call, Close, Configuration, Device, Entry, FocusModel}
use Rattle.nit_audit.specs.Below.{InputState, IsTrue, Place, Routing, Session, State, Title}
use Rattle.nit_audit.specs.Below.{UserAction, Verdict, View, after, forget, is_rectangle, is_title}
use Rattle.nit_audit.specs.Below.{member, most_read, most_sessions, route, session_in}
use Rattle.nit_audit.specs.Below.{slice_index_or}
use Rattle.nit_events.specs.declared.entry.Entry.TheVariants as entry
use Rattle.nit_audit.specs.Underway.{Audited, IsGoodFrom, MayFollow, followed}
use Rattle.nit_audit.specs.Verdict.{IsVerdictFrom}

-- the machines, the views front first, where the input goes, how many shots were taken, and how
-- many entries there were
pub record ReplayModel : Type 0 where
  pub sessions : List Session
  pub stack : List View
  pub focus : FocusModel
  pub shots : ℕ
  pub count : ℕ

-- the state that it comes to
abbrev pub state_of_replay : Configuration → ReplayModel → State
state_of_replay config r =
    record { config = config; sessions = r.sessions; stack = r.stack; input = r.focus.input }

-- The screen and the settings are those of the configuration, each client has a session, and the
-- numbers are no higher than so many entries can make them.
pub record IsReplay (config : Configuration) (r : ReplayModel) : Type 0 where
  pub screen : (r.focus.width ≡ config.width) × (r.focus.height ≡ config.height)
  pub clicks : (t : ℕ) → t < most_sessions
      → slice_index_or r.focus.clicks t false ≡ (member config t).clicks
  pub each : length r.sessions ≡ length config.clients
  pub few : length config.clients ≤ most_sessions
  pub next : (t : ℕ) → (session_in r.sessions t).next ≤ r.count + 1
  pub lost : (t : ℕ) → (session_in r.sessions t).lost ≤ 3 * r.count
  pub shots : r.shots ≤ r.count

-- The replay is one by this configuration, and it has room for one more entry.
pub record CanReplay (config : Configuration) (r : ReplayModel) : Type 0 where
  pub kept : IsReplay config r
  pub few : r.count < most_read

-- what a device event leaves of the input, and what it delivers
abbrev pub replay_routing : Configuration → ReplayModel → Device → Routing
replay_routing config r dev = route config r.focus.input r.stack dev

-- the shots after an entry
abbrev pub shots_taken_after : Entry → ℕ → ℕ
shots_taken_after (entry.Shot number) taken = taken + 1
shots_taken_after other taken = taken

-- the replay with the entry
pub record HasReplayed
    (config : Configuration) (e : Entry) (before now : ReplayModel) : Type 0 where
  pub agrees : Agrees (state_of_replay config before) before.shots e
  pub state : state_of_replay config now ≡ after (state_of_replay config before) e
  pub shots : now.shots ≡ shots_taken_after e before.shots
  pub kept : IsReplay config now
  pub count : now.count ≡ before.count + 1

-- the answer to whether an entry agrees; where it does, the replay goes on
abbrev pub IsReplayAnswer : Configuration → Entry → ReplayModel → ReplayModel → Bool → Type 0
IsReplayAnswer config e before now true = HasReplayed config e before now
IsReplayAnswer config e before now false = Agrees (state_of_replay config before) before.shots e → ⊥

-- the input after a call that is accepted
abbrev pub input_closing : ℕ → Call → InputState → InputState
input_closing sid Close i = forget i sid
input_closing sid other i = i

-- the numbers and the text of the call are in their ranges
abbrev pub IsSound : Call → Type 0
IsSound (Place v x y w h) = IsTrue (is_rectangle x y w h)
IsSound (Title v text) = IsTrue (is_title text)
IsSound other = Unit {0}

-- the views can follow the session's call
pub record CanRestack (sid : ℕ) (call : Call) : Type 0 where
  pub sound : IsSound call
  pub session : sid < most_sessions

-- the replay, and what is still to be done
pub record UnderwayModel : Type 0 where
  pub replay : ReplayModel
  pub clients : List (List (ℕ × Call))
  pub user : List (ℕ × UserAction)
  pub phase : ℕ

-- the audit that it comes to
abbrev pub audited : Configuration → UnderwayModel → Audited
audited config p = record {
  state = state_of_replay config p.replay;
  taken = p.replay.shots;
  clients = p.clients;
  user = p.user;
  phase = p.phase;
}

-- the audit with the entry
pub record IsFollowed
    (config : Configuration) (e : Entry) (before now : UnderwayModel) : Type 0 where
  pub may : MayFollow (audited config before) e
  pub audit : audited config now ≡ followed (audited config before) e
  pub kept : IsReplay config now.replay
  pub count : now.replay.count ≡ before.replay.count + 1

-- the answer to whether an entry may follow; where it may, the audit goes on
abbrev pub IsFollowing : Configuration → Entry → UnderwayModel → UnderwayModel → Bool → Type 0
IsFollowing config e before now true = IsFollowed config e before now
IsFollowing config e before now false = MayFollow (audited config before) e → ⊥

-- the answer to whether this holds; where it does, these are the parts then
abbrev pub IsGone : Type 0 → UnderwayModel → UnderwayModel → Bool → Type 0
IsGone Next then_ now true = Next × (now ≡ then_)
IsGone Next then_ now false = Next → ⊥

-- the verdict on the entries from place i on is the verdict on all of them
pub record IsAhead
    (first : Audited) (entries : List Entry) (config : Configuration) (p : UnderwayModel) (i : ℕ)
    : Type 0 where
  pub all : (v : Verdict) → IsVerdictFrom (IsGoodFrom (audited config p)) i (drop i entries) v
      → IsVerdictFrom (IsGoodFrom first) 0 entries v
