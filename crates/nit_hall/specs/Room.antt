-- What contracts see of a room, and what holds of it.
use Rattle.std.specs.Prelude.{◌≡◌, ◌⊎◌, ℕ, zero, suc, ◌+◌, ◌-◌, ◌<◌, ◌≤◌, ◌==◌, if◌then◌else◌, List}
use Rattle.std.specs.Prelude.{[], ◌∷◌, ◌++◌, nat_lt, length, map, sum, take, count_by, slice_index}
use Rattle.nit_hall.specs.Below.{ClipEntry, ClipModel, ClipReply, Colours, Configuration, End}
use Rattle.nit_hall.specs.Below.{Entry, Ink, InputLine, IsLegal, IsNonDecreasing, IsOpen, Line}
use Rattle.nit_hall.specs.Below.{SceneModel, Sight, Standing, calls_in, calls_of, calls_to_make}
use Rattle.nit_hall.specs.Below.{donation_of, glass_in, is_input_phase, is_phase, most_run_sessions}
use Rattle.nit_hall.specs.Below.{phases_along, raised, script_in, script_ink, state_now}
use Rattle.nit_hall.specs.Below.{user_actions_of, user_actions_to_do, with_stages}
use Rattle.nit_events.specs.declared.entry.Entry.TheVariants as entry
use Rattle.nit_hall.specs.OpeningParts.{OpeningParts}
use Rattle.nit_hall.specs.ServedLines.{served, user_actions_in, lines_of_all}
use Rattle.nit_hall.specs.NearWords.{AreNear}
use Rattle.nit_hall.specs.Stretch.{KnowsStretch}
use Rattle.nit_hall.specs.History.{AreLast, IsHistory}
use Rattle.nit_hall.specs.ClipPass.{ClipPassModel, next_clip}
use Rattle.nit_hall.specs.RoomClips.{FollowsClips}

-- What the room was opened with; its scene, whose glasses are the readers' ends of the clients'
-- words; how many lines were served for each client in order, and last for the user; the phase that
-- is served, and how many actors have ended it; the clip list, and how many clip calls were served
-- for each client in order, where there are clip scripts; and the raw words after each entry but
-- the last picture. Phases count from 0.
pub record RoomModel : Type 0 where
  pub parts : OpeningParts
  pub scene : SceneModel End
  pub counts : List ℕ
  pub phase : ℕ
  pub arrived : ℕ
  pub clips : ClipModel
  pub clip_counts : List ℕ
  pub raws : List (List ℕ)

-- what the readers' ends see
abbrev pub lenses : SceneModel End → List Sight
lenses scene = map (λ (e : End). e.sight) scene.glasses

-- where the readers' ends stand
abbrev pub stands : SceneModel End → List Standing
stands scene = map (λ (e : End). e.stand) scene.glasses

-- ---- the room after a line

-- The room after a line of this actor that put an entry into the journal, with these raw words and
-- readers' ends, and the raw words stand after it. All else is as before.
abbrev pub with_entry : RoomModel → ℕ → Entry → List ℕ → List End → RoomModel
with_entry r actor e raw glasses =
    record r {
      scene = record r.scene {
        entries = r.scene.entries ++ e ∷ [];
        spare = r.scene.spare - 1;
        raw = raw;
        glasses = glasses;
      };
      counts = raised r.counts actor;
      raws = r.raws ++ raw ∷ [];
    }

-- the readers' ends where that of this client knows these stages; all else is as before
abbrev pub with_end_stages : ℕ → List (List ℕ) → List End → List End
with_end_stages sid stages [] = []
with_end_stages zero stages (e ∷ rest) =
    record e { sight = with_stages stages e.sight } ∷ rest
with_end_stages (suc n) stages (e ∷ rest) = e ∷ with_end_stages n stages rest

-- the room where the reader's end of this client knows these stages
abbrev pub with_room_stages : RoomModel → ℕ → List (List ℕ) → RoomModel
with_room_stages r sid stages =
    record r {
      scene = record r.scene { glasses = with_end_stages sid stages r.scene.glasses };
    }

-- the room after the last picture, with these raw words; all else is as before
abbrev pub with_final : RoomModel → List ℕ → RoomModel
with_final r raw =
    record r {
      scene = record r.scene {
        entries = r.scene.entries ++ entry.Final ∷ [];
        spare = r.scene.spare - 1;
        raw = raw;
      };
    }

-- the phase that is served, and how many actors have ended it, when one more of the clients and the
-- user has
abbrev pub after_arrival : ℕ → ℕ → ℕ → ℕ × ℕ
after_arrival clients phase arrived =
    if arrived == clients then (phase + 1, 0) else (phase, arrived + 1)

-- the room when this actor has ended its phase
abbrev pub arrived_one : RoomModel → ℕ → RoomModel
arrived_one r actor = record r {
  counts = raised r.counts actor;
  phase = (after_arrival (length r.parts.scripts) r.phase r.arrived).0;
  arrived = (after_arrival (length r.parts.scripts) r.phase r.arrived).1;
}

-- the entry of a client's next clip call with this reply: it stands after all entries that there
-- are, with the focus that is there
abbrev pub clip_entry : RoomModel → ClipPassModel → ClipReply → ClipEntry
clip_entry r q reply =
    record {
      at = length r.scene.entries;
      sid = q.sid;
      focus = (state_now r.scene).input.focus;
      call = next_clip q;
      reply = reply;
    }

-- the room when this clip call was served; all else is as before
abbrev pub with_clip : RoomModel → ClipEntry → RoomModel
with_clip r e =
    record r {
      clips = record { entries = r.clips.entries ++ e ∷ []; spare = r.clips.spare - 1 };
      clip_counts = raised r.clip_counts e.sid;
    }

-- ---- what holds of a room

-- the entries without the last picture
abbrev pub without_final : List Entry → List Entry
without_final [] = []
without_final (entry.Final ∷ rest) = without_final rest
without_final (other ∷ rest) = other ∷ without_final rest

-- The calls of each client are those among its served lines, as many of these as its count says; so
-- are the user's entries; and along the journal phases never fall, up to the one that is served.
pub record Follows (scripts : List (List Line)) (input : List InputLine) (counts : List ℕ)
    (phase : ℕ) (entries : List Entry) : Type 0 where
  pub each : length counts ≡ length scripts + 1
  pub calls : (t : ℕ) → t < length scripts
      → calls_of t entries ≡ calls_in (take (slice_index counts t) (served (script_in scripts t)))
  pub actions : user_actions_of entries
      ≡ user_actions_in (take (slice_index counts (length scripts)) input)
  pub phases : IsNonDecreasing
      (phases_along (map calls_to_make scripts) (user_actions_to_do input) entries ++ phase ∷ [])
  pub few : (t : ℕ) → t < length scripts
      → slice_index counts t ≤ length (served (script_in scripts t))
  pub user_few : slice_index counts (length scripts) ≤ length input
  pub small : length entries ≤ sum counts

-- all lines that the room serves were served
abbrev pub AllServed : List (List Line) → List InputLine → List ℕ → Type 0
AllServed scripts input counts =
    ((t : ℕ) → t < length scripts
    → slice_index counts t ≡ length (served (script_in scripts t)))
    × (slice_index counts (length scripts) ≡ length input)

-- how many phases each client has ended by its count, in order, and last how many the user has
abbrev pub phases_ended : List (List Line) → List InputLine → List ℕ → List ℕ
phases_ended scripts input [] = []
phases_ended [] input (count ∷ rest) = count_by is_input_phase (take count input) ∷ []
phases_ended (script ∷ scripts) input (count ∷ counts) =
    count_by is_phase (take count (served script)) ∷ phases_ended scripts input counts

-- so many actors have ended this phase and no further one; all others are in it, and there are some
pub record IsServedPhase (phase arrived : ℕ) (ended : List ℕ) : Type 0 where
  pub each : (k : ℕ) → k < length ended
      → (slice_index ended k ≡ phase) ⊎ (slice_index ended k ≡ phase + 1)
  pub counted : arrived ≡ count_by (λ n. n == phase + 1) ended
  pub some_left : arrived < length ended

-- the ink of the session of this number is its script's; after the last session there is none
abbrev pub ink_in : Configuration → List (List Line) → ℕ → Ink
ink_in config scripts t =
    if nat_lt t (length scripts)
    then script_ink (script_in scripts t) (donation_of config t)
    else Colours []

-- each reader's end has the ink of its session
abbrev pub HaveInks : Configuration → List (List Line) → List End → Type 0
HaveInks config scripts ends =
    (t : ℕ) → (glass_in (map (λ (e : End). e.sight) ends) t).ink ≡ ink_in config scripts t

-- the reader's end of each client knows strokes of its script, after the calls that it has made and
-- in this phase of the client's
abbrev pub AreWatching : List (List Line) → Configuration → List Entry → (ℕ → ℕ) → List End → Type 0
AreWatching scripts config entries phase_of ends =
    (t : ℕ) → t < length scripts
    → KnowsStretch (script_in scripts t) (donation_of config t) (length (calls_of t entries))
    (phase_of t) (glass_in (map (λ (e : End). e.sight) ends) t)

-- What holds of every room: its journal is legal and follows the scripts, but for the last picture;
-- its readers' ends have the inks of the scripts, and know strokes of each in the phase that is
-- served and in the one that the client is in, which may wait for the next; each raw word is one
-- that its pixel may hold; there is room for an entry of each line and for the last picture,
-- which comes only when all lines were served; the phase that is served is the one that the last of
-- its actors are in; the clip list follows the clip scripts; and the raw words after each entry
-- are one history, which goes up to the raw words now as long as the journal is not ended.
pub record IsRoom (r : RoomModel) : Type 0 where
  pub config : r.scene.config ≡ r.parts.config
  pub legal : IsLegal r.parts.config r.scene.entries
  pub sessions : length r.parts.scripts ≡ length r.parts.config.clients
  pub clients : length r.parts.scripts ≤ most_run_sessions
  pub follows : Follows r.parts.scripts r.parts.input r.counts r.phase
      (without_final r.scene.entries)
  pub phases : IsServedPhase r.phase r.arrived
      (phases_ended r.parts.scripts r.parts.input r.counts)
  pub inks : HaveInks r.parts.config r.parts.scripts r.scene.glasses
  pub watching : AreWatching r.parts.scripts r.parts.config (without_final r.scene.entries)
      (λ t. r.phase) r.scene.glasses
  pub waiting : AreWatching r.parts.scripts r.parts.config (without_final r.scene.entries)
      (slice_index (phases_ended r.parts.scripts r.parts.input r.counts)) r.scene.glasses
  pub near : AreNear r.parts.config r.parts.scripts r.parts.input r.scene.entries r.scene.raw
  pub room : length r.scene.entries + r.scene.spare ≡ lines_of_all r.parts.scripts r.parts.input + 1
  pub ended : IsOpen r.scene.entries ⊎ AllServed r.parts.scripts r.parts.input r.counts
  pub clips_follow : FollowsClips r.parts r.clip_counts r.scene.entries r.clips
  pub history : IsHistory r.parts.config (without_final r.scene.entries) r.raws
  pub history_ends : IsOpen r.scene.entries → AreLast r.parts.config r.raws r.scene.raw
