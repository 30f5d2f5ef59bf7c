-- What a command puts behind the files of its run.
use Rattle.std.specs.Prelude.{ℕ, Bool, false, List, [], ◌∷◌, ◌≡◌}
use Rattle.nit_top.specs.Below.{AreOutputs, Capture, Clip, Command, Configuration, Entry, File}
use Rattle.nit_top.specs.Below.{IsClipFile, IsInnerJournal, Nested, Setup, film_name, film_of}
use Rattle.nit_top.specs.Below.{is_off_screen, pictures_in}

-- the region that a command films does not lie on the screen
abbrev pub is_outside_of : Command → Configuration → Bool
is_outside_of (Capture configuration region) config =
    is_off_screen region config.width config.height
is_outside_of other config = false

-- the film that a command adds behind the files of its run: for `capture` that of the run's
-- pictures
abbrev pub added_by : Command → Configuration → List (List ℕ) → List File
added_by (Capture configuration region) config pictures =
    (film_name, film_of region config pictures) ∷ []
added_by other config pictures = []

-- The files that a command adds behind those of its run: for `clip` the text of its clip list, for
-- `capture` the film of the run's pictures, for `nested` the journal of the inner run; and else
-- none.
abbrev pub AreAdded : Command → {s : Setup} → {journal : List Entry} → {files : List File}
    → AreOutputs s journal files → List File → Type 0
AreAdded (Clip configuration) {s = s} {journal = journal} are added =
    (f : File) × IsClipFile s journal f × (added ≡ f ∷ [])
AreAdded (Nested outer inner) {s = s} are added = IsInnerJournal s.inner added
AreAdded c {s = s} are added = added ≡ added_by c s.config (pictures_in are)
