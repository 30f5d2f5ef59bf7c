-- What a run puts, and what its journal is.
use Rattle.std.specs.Prelude.{◌≡◌, ℕ, ◌<◌, true, false, List, [], ◌∷◌, ◌++◌, length, map, codes}
use Rattle.std.specs.Prelude.{Some, if◌then◌else◌}
use Rattle.nit_run.specs.Below.{AreNearShots, AreOfOneHistory, AreRoundsOf, Configuration, Ending}
use Rattle.nit_run.specs.Below.{Entry, File, IsLegal, IsWhole, Line, Session, Sight, State}
use Rattle.nit_run.specs.Below.{calls_to_make, donation_of, events_text, final_name, glass_in}
use Rattle.nit_run.specs.Below.{journal_text, member, picture_of, range_with_len, replay, script_in}
use Rattle.nit_run.specs.Below.{session, shots_of, source_at, user_actions_to_do, word_from}
use Rattle.nit_run.specs.Below.{words_left, words_of}
use Rattle.nit_run.specs.Setup.{Setup}
use Rattle.nit_events.specs.declared.entry.Entry.TheVariants as entry

-- the entries are, in order, those of the rounds of the scripts, and then the last picture
abbrev pub IsByRounds : Setup → List Entry → Type 0
IsByRounds s journal =
    (entries : List Entry) × AreRoundsOf entries s.scripts s.input
    × (journal ≡ entries ++ entry.Final ∷ [])

-- The journal of a run is legal, and whole for the clients' scripts and the input script. Where the
-- clients are not beside each other it is by rounds.
pub record IsJournal (s : Setup) (journal : List Entry) : Type 0 where
  pub legal : IsLegal s.config journal
  pub whole : IsWhole (map calls_to_make s.scripts) (user_actions_to_do s.input) journal
  pub rounds : s.beside ≡ false → IsByRounds s journal

-- ---- the last picture

-- the word of a pixel by its number, where each session's table has these words
abbrev pub raw_word : State → (ℕ → List ℕ) → ℕ → ℕ
raw_word s tables k = word_from tables (source_at s k)

-- the words of all pixels, so
abbrev pub raw_words : State → (ℕ → List ℕ) → List ℕ
raw_words s tables = words_of s (raw_word s tables)

-- the picture of a state where each session's table has these words
abbrev pub picture_by : State → (ℕ → List ℕ) → List ℕ
picture_by s tables = picture_of s.config s (raw_word s tables)

-- each glass tells the words of its session's table
abbrev pub HaveTables : List Sight → (ℕ → List ℕ) → Type 0
HaveTables glasses tables =
    (t : ℕ) → t < length glasses → (glass_in glasses t).words ≡ Some (tables t)

-- the words that each script leaves in its table
abbrev pub tables_left : Configuration → List (List Line) → ℕ → List ℕ
tables_left config scripts session =
    words_left (script_in scripts session) (donation_of config session)

-- the last picture of a run: each client's words are those that its script leaves
abbrev pub final_picture : Setup → List Entry → List ℕ
final_picture s journal = picture_by (replay s.config journal) (tables_left s.config s.scripts)

-- ---- the texts

abbrev pub events_name : List ℕ → List ℕ
events_name label = codes "events-" ++ (label ++ codes ".txt")

abbrev pub journal_name : List ℕ
journal_name = codes "journal.txt"

-- how a session ended: how many events it lost, how many are still queued, and whether it is served
abbrev pub ending_of : Session → Ending
ending_of s = record { lost = s.lost; left = length s.queue; status = s.status }

-- the events that a client took, and how its session ended
abbrev pub events_file : Configuration → List Entry → ℕ → File
events_file config journal sid = (
  events_name (member config sid).label,
  events_text journal sid (ending_of (session (replay config journal) sid)),
)

-- the events of each client, in the order of the configuration
abbrev pub events_files : Configuration → List Entry → List File
events_files config journal =
    map (events_file config journal) (range_with_len 0 (length config.clients))

abbrev pub journal_file : List Entry → File
journal_file journal = (journal_name, journal_text journal)

-- the texts of a run, where it has them: the events of each client, and then the journal
abbrev pub text_files : Setup → List Entry → List File
text_files s journal =
    if s.texts then events_files s.config journal ++ journal_file journal ∷ [] else []

-- ---- the files

-- The files of the shots. By rounds they are those that the configuration and the scripts alone
-- draw. Beside each other, each shows the state that the entries before its shot lead to, by words
-- that its pixels may hold after these; and all show one history of such words.
pub record AreShots (s : Setup) (journal : List Entry) (files : List File) : Type 0 where
  pub by_rounds : s.beside ≡ false → files ≡ shots_of s.config s.scripts s.input
  pub beside : s.beside ≡ true → AreNearShots s.config s.scripts s.input journal files
  pub history : s.beside ≡ true → AreOfOneHistory s.config s.scripts s.input journal files

-- The files that a run puts, in order: those that are made before it, one for each shot, shot-1.ppm
-- and so on, then final.ppm, and then the texts.
abbrev pub AreOutputs : Setup → List Entry → List File → Type 0
AreOutputs s journal files =
    (shots : List File) × AreShots s journal shots
    × (files ≡ s.made ++ (shots ++ (final_name, final_picture s journal) ∷ text_files s journal))
