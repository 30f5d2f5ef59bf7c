-- The pictures of the shots of a journal.
use Rattle.std.specs.Prelude.{◌≡◌, ℕ, zero, suc, Bool, true, false, List, [], ◌∷◌, ◌++◌}
use Rattle.std.specs.Prelude.{if◌then◌else◌}
use Rattle.nit_rounds.specs.Below.{Configuration, Entry, File, InputLine, Line, replay, shots}
use Rattle.nit_events.specs.declared.entry.Entry.TheVariants as entry
use Rattle.nit_script.specs.declared.line.InputLine.TheVariants as input
use Rattle.nit_rounds.specs.Turn.{ActorLine, ByUser, LineTurn}
use Rattle.nit_rounds.specs.Rounds.{rounds}
use Rattle.nit_rounds.specs.RoundsRun.{shot_name}
use Rattle.nit_rounds.specs.Drawing.{Drawing, drawn, picture_of}

-- The files are those of the shots among some entries, in order, where these stand after others:
-- each is named by the shot's number, and is a picture that the entries before the shot allow.
abbrev pub ShotsBehind : (List Entry → List ℕ → Type 0) → List Entry → List Entry → List File
    → Type 0
ShotsBehind IsPicture before [] files = files ≡ []
ShotsBehind IsPicture before (entry.Shot number ∷ rest) files =
    (bytes : List ℕ) × (more : List File) × (files ≡ (shot_name number, bytes) ∷ more)
    × IsPicture before bytes × ShotsBehind IsPicture (before ++ entry.Shot number ∷ []) rest more
ShotsBehind IsPicture before (other ∷ rest) files =
    ShotsBehind IsPicture (before ++ other ∷ []) rest files

-- the files are those of the shots of a journal
abbrev pub AreShotsOf : (List Entry → List ℕ → Type 0) → List Entry → List File → Type 0
AreShotsOf IsPicture journal files = ShotsBehind IsPicture [] journal files

-- ---- by rounds

-- the line takes a picture
abbrev pub shoots : ActorLine → Bool
shoots (ByUser input.Shot) = true
shoots other = false

-- the moves before the shot that stands after so many others
abbrev pub turns_before : ℕ → List LineTurn → List LineTurn
turns_before taken [] = []
turns_before zero (m ∷ rest) = if shoots m.doing then [] else m ∷ turns_before zero rest
turns_before (suc taken) (m ∷ rest) =
    m ∷ turns_before (if shoots m.doing then taken else suc taken) rest

-- what the rounds have drawn when the shot is taken that stands after so many others
abbrev pub drawn_by_shot : Configuration → List (List Line) → List InputLine → ℕ → Drawing
drawn_by_shot config scripts lines taken =
    drawn config scripts (turns_before taken (rounds scripts lines))

-- The picture of a shot of a run by rounds: it shows the state that the entries before the shot
-- lead to, and each pixel holds the word that is drawn by then.
abbrev pub IsDrawnPicture : Configuration → List (List Line) → List InputLine → List Entry → List ℕ
    → Type 0
IsDrawnPicture config scripts lines before bytes =
    let word = (drawn_by_shot config scripts lines (shots before)).word in
    bytes ≡ picture_of config (replay config before) word
