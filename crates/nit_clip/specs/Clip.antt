-- A clip list that has room.
use Rattle.std.specs.Prelude.{◌≡◌, ◌≤◌, ℕ, ◌+◌, List, Option}
use Rattle.nit_clip.specs.Below.{ClipEntry}
use Rattle.nit_clip.specs.Clipboard.{AreAnswered, NeverFall, clipboard_of, last_at}

-- how many clip calls there can be: one for each line of 16 clients
abbrev pub most_clips : ℕ
most_clips = 1048576

-- the entries so far, in order, and for how many more there is room
pub record ClipModel : Type 0 where
  pub entries : List ClipEntry
  pub spare : ℕ

-- There is room for so many more, each entry has its answer, the places never fall, and what the
-- clipboard holds and the last place are those of the entries.
pub record IsClip (entries : List ClipEntry) (count spare capacity : ℕ)
    (clipboard : Option (List ℕ)) (last : ℕ) : Type 0 where
  pub room : count + spare ≤ capacity
  pub answered : AreAnswered entries
  pub ordered : NeverFall 0 entries
  pub clipboard_is : clipboard ≡ clipboard_of entries
  pub last_is : last ≡ last_at 0 entries
