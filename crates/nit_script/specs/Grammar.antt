-- Scripts and their texts, for any kind of line: which lines fit, and how each is spelled.
use Rattle.std.specs.Prelude.{◌≡◌, ◌≢◌, ◌≤◌, ℕ, ◌+◌, List, [], ◌∷◌, ◌++◌, length, Result, Ok, Err}
use Rattle.std.specs.Prelude.{Vec}
use Rattle.nit_script.specs.Below.{AllByRecursion, Bad, Global, InputLine, Line, NoMemory}
use Rattle.nit_script.specs.Below.{ScriptError, TooLong, flat_map}
use Rattle.nit_script.specs.Spelling.{FitsLine, FitsInputLine, line_spelling, input_spelling}

-- how many lines a script has at most
abbrev pub most_lines : ℕ
most_lines = 65536

-- a line with its line feed
abbrev pub spelled : {L : Type 0} → (L → List ℕ) → L → List ℕ
spelled spelling l = spelling l ++ 10 ∷ []

-- The bytes are the spellings of the lines, each with one line feed after it, and each line fits.
abbrev pub Reads : {L : Type 0} → (L → Type 0) → (L → List ℕ) → List ℕ → List L → Type 0
Reads Fits spelling bytes lines =
    AllByRecursion Fits lines × (bytes ≡ flat_map (spelled spelling) lines)

-- The bytes begin with this line, which fits, and a line feed; then comes the rest.
abbrev pub BeginsWith : {L : Type 0} → (L → Type 0) → (L → List ℕ) → List ℕ → L → List ℕ → Type 0
BeginsWith Fits spelling bytes l rest = Fits l × (bytes ≡ spelled spelling l ++ rest)

-- Any bytes begin with one line at most.
pub record HasOneReading {L : Type 0} (Fits : L → Type 0) (spelling : L → List ℕ) : Type 0 where
  pub same : (bytes : List ℕ) (a b : L) (r s : List ℕ) → BeginsWith Fits spelling bytes a r
      → BeginsWith Fits spelling bytes b s → (a ≡ b) × (r ≡ s)

-- The bytes do not begin with the spelling of a line that fits and a line feed.
abbrev pub HasNoReading : {L : Type 0} → (L → Type 0) → (L → List ℕ) → List ℕ → Type 0
HasNoReading {L = L} Fits spelling bytes =
    (l : L) (rest : List ℕ) → Fits l → bytes ≡ spelled spelling l ++ rest → ⊥

-- The bytes are those of lines that fit, and then a rest.
abbrev pub Begins : {L : Type 0} → (L → Type 0) → (L → List ℕ) → List ℕ → List L → List ℕ → Type 0
Begins Fits spelling bytes lines rest =
    AllByRecursion Fits lines × (bytes ≡ flat_map (spelled spelling) lines ++ rest)

-- The line of this number, from 1, is the first that has no reading, among the first 65,536.
abbrev pub IsFirstBad : {L : Type 0} → (L → Type 0) → (L → List ℕ) → List ℕ → ℕ → Type 0
IsFirstBad {L = L} Fits spelling bytes number =
    (lines : List L) × (rest : List ℕ) × Begins Fits spelling bytes lines rest × (rest ≢ [])
    × HasNoReading Fits spelling rest × (length lines + 1 ≡ number) × (number ≤ most_lines)

-- There are 65,536 lines with a reading, and a byte stands after them.
abbrev pub IsTooLong : {L : Type 0} → (L → Type 0) → (L → List ℕ) → List ℕ → Type 0
IsTooLong {L = L} Fits spelling bytes =
    (lines : List L) × (rest : List ℕ) × Begins Fits spelling bytes lines rest × (rest ≢ [])
    × (length lines ≡ most_lines)

-- lines that fit, as many as a script has at most
abbrev pub FitsScript : {L : Type 0} → (L → Type 0) → List L → Type 0
FitsScript Fits lines = AllByRecursion Fits lines × (length lines ≤ most_lines)

-- ---- clients' scripts

-- The bytes spell these lines of a client's script.
abbrev pub ReadsClient : List ℕ → List Line → Type 0
ReadsClient = Reads FitsLine line_spelling

-- The line of this number is the first without a reading.
abbrev pub IsFirstBadClient : List ℕ → ℕ → Type 0
IsFirstBadClient = IsFirstBad FitsLine line_spelling

-- Bytes stand after 65,536 lines with a reading.
abbrev pub IsTooLongClient : List ℕ → Type 0
IsTooLongClient = IsTooLong FitsLine line_spelling

-- ---- input scripts

-- The bytes spell these lines of an input script.
abbrev pub ReadsInput : List ℕ → List InputLine → Type 0
ReadsInput = Reads FitsInputLine input_spelling

-- The line of this number is the first without a reading.
abbrev pub IsFirstBadInput : List ℕ → ℕ → Type 0
IsFirstBadInput = IsFirstBad FitsInputLine input_spelling

-- Bytes stand after 65,536 lines with a reading.
abbrev pub IsTooLongInput : List ℕ → Type 0
IsTooLongInput = IsTooLong FitsInputLine input_spelling

-- ---- answers

-- The fact holds, or memory ran out.
abbrev pub UnlessMemory : {A : Type 0} → Result A ScriptError → Type 0 → Type 0
UnlessMemory (Ok c) P = P
UnlessMemory (Err (Bad line)) P = P
UnlessMemory (Err TooLong) P = P
UnlessMemory (Err NoMemory) P = Unit {0}

-- What reading bytes as lines may answer.
abbrev pub IsScriptAnswer : {L : Type 0} → (L → Type 0) → (L → List ℕ) → List ℕ
    → Result (Vec L Global) ScriptError → Type 0
IsScriptAnswer Fits spelling bytes (Ok v) =
    Reads Fits spelling bytes v.items × (length v.items ≤ most_lines)
IsScriptAnswer Fits spelling bytes (Err (Bad line)) = IsFirstBad Fits spelling bytes line
IsScriptAnswer Fits spelling bytes (Err TooLong) = IsTooLong Fits spelling bytes
IsScriptAnswer Fits spelling bytes (Err NoMemory) = Unit {0}
