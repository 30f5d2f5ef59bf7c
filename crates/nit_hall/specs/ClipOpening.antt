-- What a room and its clip passes are when it has got clip scripts.
use Rattle.std.specs.Prelude.{◌≡◌, ℕ, List, [], length, replicate, slice_get, Some}
use Rattle.nit_hall.specs.Below.{ClipLine}
use Rattle.nit_hall.specs.OpeningParts.{OpeningParts}
use Rattle.nit_hall.specs.ClipPass.{ClipPassModel, clip_number, clip_script_in}
use Rattle.nit_hall.specs.Room.{RoomModel}
use Rattle.nit_hall.specs.RoomClips.{lines_of_clips}

-- nothing was served in the room yet, and it has no clip scripts
pub record IsUnserved (r : RoomModel) : Type 0 where
  pub entries : r.scene.entries ≡ []
  pub no_clips : r.parts.clips ≡ []

-- The room with these clip scripts: the clip list is empty, with room for a clip call of each of
-- their lines, and none was served. All else is as before.
abbrev pub with_clip_scripts : RoomModel → List (List ClipLine) → RoomModel
with_clip_scripts r scripts =
    record r {
      parts = record r.parts { clips = scripts };
      clips = record { entries = []; spare = lines_of_clips scripts };
      clip_counts = replicate (length scripts) 0;
    }

-- the clip pass of this number, of which no line is done
abbrev pub first_clip_pass : OpeningParts → ℕ → ClipPassModel
first_clip_pass parts k =
    record {
      sid = k;
      next = 0;
      phase = 0;
      number = clip_number parts k;
      name = parts.name;
      script = clip_script_in parts.clips k;
      seen = [];
    }

-- there is a clip pass for each clip script, in order, and no line of them is done
pub record AreFirstClipPasses (parts : OpeningParts) (qs : List ClipPassModel) : Type 0 where
  pub each : length qs ≡ length parts.clips
  pub first : (k : ℕ) (q : ClipPassModel) → slice_get qs k ≡ Some q → q ≡ first_clip_pass parts k
