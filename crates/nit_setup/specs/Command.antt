-- What the words of the command line ask for.
use Rattle.std.specs.Prelude.{ℕ, Bool, true, false, List, [], ◌∷◌, map, find, codes, Option, Some}
use Rattle.std.specs.Prelude.{None, String, if◌then◌else◌}
use Rattle.nit_setup.specs.Below.{Region, bytes_eq, decimal, most_run_height, most_run_width}
use Rattle.nit_setup.specs.Below.{number_end, range_with_len, string_bytes}

-- the words as lists of bytes
abbrev pub texts : {Z : Type 0} → List (String Z) → List (List ℕ)
texts words = map string_bytes words

-- a picture of one client's script, on a screen of this width and height; or the run of a
-- configuration, with its clients beside each other on threads of their own, or by turns; or the
-- generated run of this number, with its clients beside each other; or the audit of a journal by a
-- configuration; or a run of a configuration with its clients beside each other, and a clip script
-- for each; or such a run without clip scripts, and the film of a region; or such a run of one
-- configuration whose first client shows what the run of another by turns shows; or nothing that
-- the program does
pub data Command : Type 0 where
  Still : (width : ℕ) → (height : ℕ) → (script : List ℕ) → Command
  Run : (beside : Bool) → (configuration : List ℕ) → Command
  Gen : (number : ℕ) → Command
  Audit : (configuration : List ℕ) → (journal : List ℕ) → Command
  Clip : (configuration : List ℕ) → Command
  Capture : (configuration : List ℕ) → (region : Region) → Command
  Nested : (outer : List ℕ) → (inner : List ℕ) → Command
  NoCommand : Command

-- the command starts threads
abbrev pub starts_threads : Command → Bool
starts_threads (Still width height script) = false
starts_threads (Run beside configuration) = beside
starts_threads (Gen number) = true
starts_threads (Audit configuration journal) = false
starts_threads (Clip configuration) = true
starts_threads (Capture configuration region) = true
starts_threads (Nested outer inner) = true
starts_threads NoCommand = false

-- the number that a word spells in decimal, among so many from the first one on
unfoldable pub number_among : ℕ → ℕ → List ℕ → Option ℕ
number_among first count word = find (λ n. bytes_eq (decimal n) word) (range_with_len first count)

-- the number that a word spells in at most nine digits
abbrev pub natural_of : List ℕ → Option ℕ
natural_of word = number_among 0 number_end word

-- the number of 1 up to most that a word spells
abbrev pub number_up_to : ℕ → List ℕ → Option ℕ
number_up_to most word = number_among 1 most word

abbrev pub still : Option ℕ → Option ℕ → List ℕ → Command
still (Some width) (Some height) script = Still width height script
still (Some width) None script = NoCommand
still None height script = NoCommand

-- a generated run, by the number that a word spells in at most nine digits
abbrev pub gen : Option ℕ → Command
gen (Some number) = Gen number
gen None = NoCommand

-- the film of a region, where all four numbers are there
abbrev pub capture : List ℕ → Option ℕ → Option ℕ → Option ℕ → Option ℕ → Command
capture configuration (Some x) (Some y) (Some w) (Some h) =
    Capture configuration (record { x = x; y = y; w = w; h = h })
capture configuration (Some x) (Some y) (Some w) None = NoCommand
capture configuration (Some x) (Some y) None h = NoCommand
capture configuration (Some x) None w h = NoCommand
capture configuration None y w h = NoCommand

-- `turns`, `run` or `clip`, and the name of a configuration; or `gen`, and a number
abbrev pub run_of : List ℕ → List ℕ → Command
run_of verb word =
    if bytes_eq verb (codes "turns") then Run false word
    else (if bytes_eq verb (codes "run") then Run true word
    else (if bytes_eq verb (codes "gen") then gen (natural_of word)
    else (if bytes_eq verb (codes "clip") then Clip word else NoCommand)))

-- `audit`, and the names of a configuration and of a journal; or `nested`, and the names of two
-- configurations
abbrev pub pair_of : List ℕ → List ℕ → List ℕ → Command
pair_of verb first second =
    if bytes_eq verb (codes "audit") then Audit first second
    else (if bytes_eq verb (codes "nested") then Nested first second else NoCommand)

-- `still`, a width of 1 up to 1024, a height of 1 up to 768, and the name of a script
abbrev pub still_of : List ℕ → List ℕ → List ℕ → List ℕ → Command
still_of verb width height script =
    if bytes_eq verb (codes "still") then still (number_up_to most_run_width width)
    (number_up_to most_run_height height) script else NoCommand

-- `capture`, the name of a configuration, and the four numbers of a region
abbrev pub capture_command : List ℕ → List ℕ → List ℕ → List ℕ → List ℕ → List ℕ → Command
capture_command verb configuration x y w h =
    if bytes_eq verb (codes "capture")
    then capture configuration (natural_of x) (natural_of y) (natural_of w) (natural_of h)
    else NoCommand

-- what all words ask for
abbrev pub command : List (List ℕ) → Command
command (verb ∷ word ∷ []) = run_of verb word
command (verb ∷ first ∷ second ∷ []) = pair_of verb first second
command (verb ∷ width ∷ height ∷ script ∷ []) = still_of verb width height script
command (verb ∷ configuration ∷ x ∷ y ∷ w ∷ h ∷ []) = capture_command verb configuration x y w h
command words = NoCommand
