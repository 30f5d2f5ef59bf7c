-- A frame as lines of a script: row by row a `fill` for each longest run of equal words, and then a
-- `refresh` of the whole buffer.
use Rattle.std.specs.Prelude.{◌≡◌, ℕ, zero, suc, ◌+◌, ◌*◌, ◌==◌, pos, List, [], ◌∷◌, ◌++◌, length}
use Rattle.std.specs.Prelude.{take, drop, replicate, if◌then◌else◌}
use Rattle.nit_nested.specs.Below.{AllByRecursion, Fill, FitsColour, Line, Refresh, flat_map}
use Rattle.nit_script.specs.declared.line.Line.TheVariants as line

-- so many equal words, one after the other
pub record ColourRun : Type 0 where
  pub long : ℕ
  pub word : ℕ

-- a word in front: it joins the first run where that has the same word, and is a run of its own
-- elsewhere
abbrev pub run_joined : ℕ → List ColourRun → List ColourRun
run_joined c [] = record { long = 1; word = c } ∷ []
run_joined c (r ∷ rest) =
    if r.word == c then record r { long = r.long + 1 } ∷ rest
    else record { long = 1; word = c } ∷ r ∷ rest

-- the runs of equal words of a row, each as long as can be
abbrev pub row_runs : List ℕ → List ColourRun
row_runs [] = []
row_runs (c ∷ words) = run_joined c (row_runs words)

-- runs from column x of row y on, each as a `fill` of one row
abbrev pub fills : ℕ → ℕ → List ColourRun → List Line
fills x y [] = []
fills x y (r ∷ rest) = line.Stroke (Fill x y r.long 1 r.word) ∷ fills (x + r.long) y rest

-- a row of words
abbrev pub row_lines : ℕ → List ℕ → List Line
row_lines y row = fills 0 y (row_runs row)

-- so many rows of w words, from row y on
abbrev pub rows_lines : ℕ → ℕ → ℕ → List ℕ → List Line
rows_lines w y zero words = []
rows_lines w y (suc n) words =
    row_lines y (take w words) ++ rows_lines w (y + 1) n (drop w words)

-- the lines of a frame of w by h
abbrev pub frame_lines : ℕ → ℕ → List ℕ → List Line
frame_lines w h words =
    rows_lines w 0 h words ++ line.Call (Refresh (pos 0) (pos 0) w h) ∷ []

-- as many words as the screen has, each below 2^24
abbrev pub IsFrame : ℕ → ℕ → List ℕ → Type 0
IsFrame w h words = (length words ≡ w * h) × AllByRecursion FitsColour words

-- ---- the words that the lines of a frame tell

-- a `fill` of one row tells as many words as it has columns
abbrev pub words_of_line : Line → List ℕ
words_of_line (line.Stroke (Fill x y w h c)) = replicate w c
words_of_line other = []

abbrev pub words_of_lines : List Line → List ℕ
words_of_lines lines = flat_map words_of_line lines
