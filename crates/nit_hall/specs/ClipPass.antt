-- What contracts see of a client's clip pass.
use Rattle.std.specs.Prelude.{◌≡◌, ◌⊎◌, ℕ, ◌+◌, ◌≤◌, List, [], length, take, count_by}
use Rattle.nit_hall.specs.Below.{BookName, ClipCall, ClipLine, Entry, Option, ShareModel, Some}
use Rattle.nit_hall.specs.Below.{clip_calls_in, is_clip_phase, slice_get, slice_index_or}
use Rattle.nit_clip.specs.declared.call.ClipCall.TheVariants as call
use Rattle.nit_clip.specs.declared.line.ClipLine.TheVariants as line
use Rattle.nit_hall.specs.OpeningParts.{OpeningParts}
use Rattle.nit_hall.specs.Pass.{PassModel, IsAtPhase}

-- A client's clip pass: the client's number; how many lines of its clip script are done, and how
-- many phases; the number of its share, and the name of its room's book; the clip script, and the
-- entries that it knows.
pub record ClipPassModel : Type 0 where
  pub sid : ℕ
  pub next : ℕ
  pub phase : ℕ
  pub number : ℕ
  pub name : BookName
  pub script : List ClipLine
  pub seen : List Entry

-- how many phases end in the first k lines of a clip script
abbrev pub clip_phases_before : List ClipLine → ℕ → ℕ
clip_phases_before script k = count_by is_clip_phase (take k script)

-- What holds of every clip pass: its share has its number, and has counted the clip calls among the
-- lines that are done; and the phases that these end are its phases.
pub record IsClipPass (q : ClipPassModel) (share : ShareModel) : Type 0 where
  pub number : share.number ≡ q.number
  pub counted : share.count ≡ length (clip_calls_in (take q.next q.script))
  pub within : q.next ≤ length q.script
  pub phase : q.phase ≡ clip_phases_before q.script q.next

-- ---- the next line

-- the clip call of a line; any other line has none
abbrev pub clip_call_of_line : Option ClipLine → ClipCall
clip_call_of_line (Some (line.Call c)) = c
clip_call_of_line other = call.Paste

-- what the client asks of the clipboard next
abbrev pub next_clip : ClipPassModel → ClipCall
next_clip q = clip_call_of_line (slice_get q.script q.next)

-- the next line is a clip call
abbrev pub IsAtClip : ClipPassModel → Type 0
IsAtClip q = slice_get q.script q.next ≡ Some (line.Call (next_clip q))

-- the next line ends a phase
abbrev pub IsAtClipPhase : ClipPassModel → Type 0
IsAtClipPhase q = slice_get q.script q.next ≡ Some line.Phase

-- ---- of which opening it is

-- the clip script of a client, and no line where there is none
abbrev pub clip_script_in : List (List ClipLine) → ℕ → List ClipLine
clip_script_in clips sid = slice_index_or clips sid []

-- the number of the share of a client's clip pass: it stands after the shares of all clients'
-- passes and of the user's
abbrev pub clip_number : OpeningParts → ℕ → ℕ
clip_number parts sid = length parts.scripts + 1 + sid

-- the clip pass has the name of this opening, and its client's clip script and number in it
pub record ClipBelongs (parts : OpeningParts) (q : ClipPassModel) : Type 0 where
  pub name : q.name ≡ parts.name
  pub script : slice_get parts.clips q.sid ≡ Some q.script
  pub number : q.number ≡ clip_number parts q.sid

-- ---- beside the client's pass

-- the two passes are of one client and in one phase
pub record AreTogether (p : PassModel) (q : ClipPassModel) : Type 0 where
  pub client : p.sid ≡ q.sid
  pub phase : p.phase ≡ q.phase

-- the pass has done what it does in its phase: its next line ends the phase, or it is done
abbrev pub IsAtPhaseEnd : PassModel → Type 0
IsAtPhaseEnd p = IsAtPhase p ⊎ (p.next ≡ length p.script)

-- ---- at the end

-- the clip pass that knows these entries
abbrev pub knowing_clip : List Entry → ClipPassModel → ClipPassModel
knowing_clip known q = record q { seen = known }

-- the clip pass is the one of this number, and each line of its clip script is done
pub record IsDoneClip (parts : OpeningParts) (k : ℕ) (q : ClipPassModel) : Type 0 where
  pub belongs : ClipBelongs parts q
  pub number : q.sid ≡ k
  pub ended : q.next ≡ length q.script

-- there is a clip pass for each clip script, in order, and each is done
pub record AreDoneClips (parts : OpeningParts) (qs : List ClipPassModel) : Type 0 where
  pub each : length qs ≡ length parts.clips
  pub done_all : (k : ℕ) (q : ClipPassModel) → slice_get qs k ≡ Some q → IsDoneClip parts k q
