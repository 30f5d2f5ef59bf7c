-- The last picture of a run: what it is taken of, and what it leaves.
use Rattle.std.specs.Prelude.{◌≡◌, ℕ, ◌*◌, ◌<◌, ◌≤◌, List, [], ◌∷◌, ◌++◌, length, map, true}
use Rattle.nit_perform.specs.Below.{AreDone, Configuration, Desk, End, Entry, IsDoneUser, IsGlass}
use Rattle.nit_perform.specs.Below.{IsHistory, IsLegal, IsOpen, IsWhole, OpeningParts, PassModel}
use Rattle.nit_perform.specs.Below.{PutState, PutsNext, RoomModel, SceneModel, Sight, StoreModel}
use Rattle.nit_perform.specs.Below.{UserPassModel, calls_to_make, final_name, final_picture}
use Rattle.nit_perform.specs.Below.{glass_in, picture_length, put_state_of_desk, setup_of}
use Rattle.nit_perform.specs.Below.{user_actions_to_do}
use Rattle.nit_perform.specs.RoomRun.{IsKnownWhole}
use mathlib.Core.List.{IsPrefix}
use Rattle.nit_events.specs.declared.entry.Entry.TheVariants as entry

-- ---- by the sessions' own glasses

-- the open journal has room for the last picture, and there is a glass for each session
pub record CanTakeLast (s : SceneModel Sight) (owns : List Sight) : Type 0 where
  pub spare : 1 ≤ s.spare
  pub unended : IsOpen s.entries
  pub each : length owns ≡ length s.config.clients
  pub tables : (t : ℕ) → t < length owns → IsGlass s.config t (glass_in owns t)

-- the last picture stands behind the journal, which is legal
pub record TakesLast (s s' : SceneModel Sight) : Type 0 where
  pub recorded : s'.entries ≡ s.entries ++ entry.Final ∷ []
  pub config : s'.config ≡ s.config
  pub legal : IsLegal s'.config s'.entries

-- ---- by the passes of a room

-- all clients' passes and the user's are done, and the room's journal is open
pub record AreAllDone (r : RoomModel) (passes : List PassModel) (user : UserPassModel) : Type 0
  where
    pub clients_done : AreDone r.parts passes
    pub user_done : IsDoneUser r.parts user
    pub unended : IsOpen r.scene.entries

-- the desk has a word for each pixel of the screen, and a byte for each of its picture
pub record HasPictureRoom {S : Type 0} (config : Configuration) (desk : Desk S) : Type 0 where
  pub frame : length desk.frame.items ≡ config.width * config.height
  pub text : length desk.text.items ≡ picture_length config.width config.height

-- what a desk shows: its store, and the refusal that it met
abbrev pub put_state_at : {S : Type 0} → (S → StoreModel) → Desk S → PutState
put_state_at shown desk = put_state_of_desk (shown desk.store.now) desk.fault desk.tried

-- the raw words that the user knew are the first of those behind all entries but the last picture,
-- which are one history
pub record IsKnownHistory (config : Configuration) (raws : List (List ℕ)) (journal : List Entry)
    : Type 0 where
  pub all : List (List ℕ)
  pub front : IsPrefix raws all
  pub entries : List Entry
  pub ended : journal ≡ entries ++ entry.Final ∷ []
  pub history : IsHistory config entries all

-- The scene that a run of this opening leaves has a whole journal, of which the user has seen all
-- of its own entries, and the desk has put its last picture.
pub record HasEnded {S : Type 0} (shown : S → StoreModel) (parts : OpeningParts)
    (seen : List Entry) (raws : List (List ℕ)) (s : SceneModel End) (old new : Desk S)
    : Type 0 where
  pub config : s.config ≡ parts.config
  pub legal : IsLegal parts.config s.entries
  pub whole : IsWhole (map calls_to_make parts.scripts) (user_actions_to_do parts.input) s.entries
  pub known : IsKnownWhole seen s.entries
  pub history : IsKnownHistory parts.config raws s.entries
  pub put : PutsNext (
    final_name,
    final_picture (setup_of parts.config parts.scripts parts.input true true) s.entries,
  )
      (put_state_at shown old) (put_state_at shown new)
  pub same_store : new.store.ghost_name ≡ old.store.ghost_name
