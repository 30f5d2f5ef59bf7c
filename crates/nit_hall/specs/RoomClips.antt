-- What holds of the clip list of a room.
use Rattle.std.specs.Prelude.{◌≡◌, ℕ, ◌+◌, ◌≤◌, List, length, map, sum, take, slice_index}
use Rattle.nit_hall.specs.Below.{AreInPhases, ClipLine, ClipModel, Entry, IsLegalClips}
use Rattle.nit_hall.specs.Below.{calls_to_make, clip_calls_in, clip_calls_of, clips_to_make}
use Rattle.nit_hall.specs.Below.{user_actions_to_do}
use Rattle.nit_hall.specs.OpeningParts.{OpeningParts}
use Rattle.nit_hall.specs.ClipPass.{clip_script_in}

-- how many lines all clip scripts have
abbrev pub lines_of_clips : List (List ClipLine) → ℕ
lines_of_clips clips = sum (map length clips)

-- The clip list is legal for the journal; the clip calls of each client in it are the first ones of
-- its clip script, as many as its count says; each stands in its phase; and there is room for a
-- clip call of each line that was not served.
pub record FollowsClips (parts : OpeningParts) (counts : List ℕ) (entries : List Entry)
    (clips : ClipModel) : Type 0 where
  pub legal : IsLegalClips parts.config entries clips.entries
  pub each : length counts ≡ length parts.clips
  pub calls : (t : ℕ) → clip_calls_of t clips.entries
      ≡ take (slice_index counts t) (clip_calls_in (clip_script_in parts.clips t))
  pub few : (t : ℕ)
      → slice_index counts t ≤ length (clip_calls_in (clip_script_in parts.clips t))
  pub in_phases : AreInPhases (map calls_to_make parts.scripts) (user_actions_to_do parts.input)
      entries (map clips_to_make parts.clips) clips.entries
  pub room : sum counts + clips.spare ≡ lines_of_clips parts.clips
