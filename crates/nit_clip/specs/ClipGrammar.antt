-- Clip scripts and their texts.
use Rattle.nit_clip.specs.Below.{Bool, ClipLine, IsFirstBad, IsTooLong, List, Reads, false}
use Rattle.nit_clip.specs.Below.{phases_by, true, ℕ}
use Rattle.nit_clip.specs.declared.line.ClipLine.TheVariants as line
use Rattle.nit_clip.specs.ClipSpelling.{FitsClipLine, clip_line_spelling}

-- The bytes spell these lines of a clip script.
abbrev pub ReadsClip : List ℕ → List ClipLine → Type 0
ReadsClip = Reads FitsClipLine clip_line_spelling

-- The line of this number is the first without a reading.
abbrev pub IsFirstBadClip : List ℕ → ℕ → Type 0
IsFirstBadClip = IsFirstBad FitsClipLine clip_line_spelling

-- Bytes stand after 65,536 lines with a reading.
abbrev pub IsTooLongClip : List ℕ → Type 0
IsTooLongClip = IsTooLong FitsClipLine clip_line_spelling

-- the line ends a phase
abbrev pub is_clip_phase : ClipLine → Bool
is_clip_phase line.Phase = true
is_clip_phase (line.Call c) = false

-- how many phases a clip script has
abbrev pub clip_phases : List ClipLine → ℕ
clip_phases = phases_by is_clip_phase
