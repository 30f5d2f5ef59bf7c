-- What contracts see of a scene, and what holds of it.
use Rattle.std.specs.Prelude.{◌≡◌, ℕ, ◌+◌, ◌-◌, ◌*◌, ◌≤◌, ◌++◌, ◌∷◌, [], List, length, map}
use Rattle.nit_scene.specs.Below.{AreGlasses, AreRaw, Configuration, Entry, IsLegal, IsOpen}
use Rattle.nit_scene.specs.Below.{Painted}
use Rattle.nit_scene.specs.Below.{ServerModel, Sight, State, glass_in, replay, session_in, shots}
use Rattle.nit_scene.specs.Below.{state_of, with_glass}
use Rattle.nit_events.specs.declared.entry.Entry.TheVariants as entry
use Rattle.nit_scene.specs.SessionsAlone.{AreAlone}

-- the configuration, the entries of the journal and for how many more there is room, the raw words
-- of the screen's pixels, and the glasses through which the sessions' words are loaded
pub record SceneModel (G : Type 0) : Type 0 where
  pub config : Configuration
  pub entries : List Entry
  pub spare : ℕ
  pub raw : List ℕ
  pub glasses : List G

-- the state that a scene is in is the one that its journal leads to
abbrev pub state_now : {G : Type 0} → SceneModel G → State
state_now p = replay p.config p.entries

-- the journal has room for one entry more, and is not ended
pub record CanAdd {G : Type 0} (s : SceneModel G) : Type 0 where
  pub spare : 1 ≤ s.spare
  pub «open» : IsOpen s.entries

-- The journal has this entry more, and is legal. Each session got the replies of a machine that
-- serves it alone, and the raw words are as the pixels' sources want them.
pub record IsAdded {G : Type 0} (before now : SceneModel G) (e : Entry) : Type 0 where
  pub recorded : now.entries ≡ before.entries ++ e ∷ []
  pub spare : now.spare ≡ before.spare - 1
  pub config : now.config ≡ before.config
  pub legal : IsLegal now.config now.entries
  pub alone : AreAlone now.config now.entries
  pub raw : AreRaw (state_now now) now.raw

-- a shot was recorded under the next number, the journal is not ended, and nothing else changed
pub record IsShot {G : Type 0} (before now : SceneModel G) (number : ℕ) : Type 0 where
  pub next : number ≡ shots before.entries + 1
  pub added : IsAdded before now (entry.Shot number)
  pub scene : now ≡ record before {
    entries = before.entries ++ entry.Shot number ∷ [];
    spare = before.spare - 1;
  }
  pub same : state_now now ≡ state_now before
  pub «open» : IsOpen now.entries

-- The journal is ended by the last picture, for which every pixel was loaded again through the
-- sessions' own glasses. The scene's glasses and the state are as they were.
pub record IsFinished {G C R : Type 0} (sight : C → Sight) (rest : C → R) (owns owns' : List C)
    (before now : SceneModel G) : Type 0 where
  pub added : IsAdded before now entry.Final
  pub same : state_now now ≡ state_now before
  pub glasses : now.glasses ≡ before.glasses
  pub painted : Painted (state_now before) entry.Final (state_now now)
      (glass_in (map sight owns)) (glass_in (map sight owns')) before.raw now.raw
  pub rests : map rest owns' ≡ map rest owns

-- the glasses of a call: the caller's own for its session, and the scene's for all others
abbrev pub glasses_of_call : List Sight → ℕ → Sight → ℕ → Sight
glasses_of_call scene sid own = with_glass (glass_in scene) sid own

-- there is a glass for each session, in order
pub record AreListedGlasses {G : Type 0} (sight : G → Sight) (config : Configuration)
    (glasses : List G) : Type 0 where
  pub each : length glasses ≡ length config.clients
  pub tables : AreGlasses config (glass_in (map sight glasses))

-- The server is in the state that a legal journal leads to, and the raw words are as the pixels'
-- sources want them. No session has made more views than there are entries, or lost more than three
-- events for each, and the journal never holds more than 1,114,113.
pub record IsScene (s : ServerModel) (entries : List Entry) (spare : ℕ) (raw : List ℕ)
    (taken : ℕ) : Type 0 where
  pub replayed : state_of s ≡ replay s.config entries
  pub legal : IsLegal s.config entries
  pub raw_words : AreRaw (state_of s) raw
  pub handles : (t : ℕ) → (session_in s.sessions t).next ≤ length entries + 1
  pub lost : (t : ℕ) → (session_in s.sessions t).lost ≤ 3 * length entries
  pub room : length entries + spare ≤ 1114113
  pub shots : taken ≡ shots entries
