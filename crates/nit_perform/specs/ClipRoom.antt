-- A run in a room with clip scripts: what it begins with, and its clip list at its end.
use Rattle.std.specs.Prelude.{◌≡◌, ℕ, ◌≤◌, true, List, [], All, length, map, Result, IfOk, Vec}
use Rattle.std.specs.Prelude.{vec_capacity}
use Rattle.nit_perform.specs.Below.{ClipEntry, ClipLine, Configuration, Entry, Global, InputLine}
use Rattle.nit_perform.specs.Below.{IsClipList, IsPairIn, Line, NoMemory, OpeningParts, Pair}
use Rattle.nit_perform.specs.Below.{Paired, RoomModel, Setup, UserPassModel, clip_text, setup_of}
use Rattle.nit_perform.specs.RoomRun.{IsReady}

-- the setup of a run with these clip scripts
abbrev pub clips_setup : Configuration → List (List Line) → List InputLine → List (List ClipLine)
    → Setup
clips_setup config scripts input clips =
    record (setup_of config scripts input true true) { clips = clips }

-- the setup of an opening with clip scripts, as it runs
abbrev pub clips_setup_in : OpeningParts → Setup
clips_setup_in parts = clips_setup parts.config parts.scripts parts.input parts.clips

-- there is room for the passes and the clip passes of all pairs
pub record HasRoomBack (p : Paired) : Type 0 where
  pub passes : p.passes.items ≡ []
  pub clips : p.clips.items ≡ []
  pub passes_room : length p.pairs.items ≤ vec_capacity p.passes
  pub clips_room : length p.pairs.items ≤ vec_capacity p.clips

-- The run of this opening can begin, as without clip scripts. There is a clip script for each
-- client, and each client's pass and its clip pass go together.
pub record IsReadyWithClips (parts : OpeningParts) (r : RoomModel) (pairs : List Pair)
    (u : UserPassModel) : Type 0 where
  pub ready : IsReady parts r (map (λ b. b.pass) pairs) u
  pub each : length pairs ≡ length parts.scripts
  pub clips_each : length parts.clips ≡ length parts.scripts
  pub pairs_in : All (λ b. IsPairIn parts b.pass b.clip) pairs

-- the text of a clip list of the run, unless memory ran out for it
abbrev pub IsClipListText : Setup → List Entry → Result (Vec ℕ Global) NoMemory → Type 0
IsClipListText s journal text = (clips : List ClipEntry) × IsClipList s journal clips
    × IfOk text (λ v. v.items ≡ clip_text clips)
