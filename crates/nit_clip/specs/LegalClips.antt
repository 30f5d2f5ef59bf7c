-- Clip lists that are legal for a journal.
use Rattle.std.specs.Prelude.{◌≡◌, ◌≤◌, ℕ, suc, ◌<◌, List, [], ◌∷◌, length, take}
use Rattle.nit_clip.specs.Below.{AllByRecursion, ClipEntry, Configuration, Entry, replay}
use Rattle.nit_events.specs.declared.entry.Entry.TheVariants as entry
use Rattle.nit_clip.specs.Clipboard.{AreAnswered, NeverFall}

-- how many entries stand before the last picture
abbrev pub before_final : List Entry → ℕ
before_final [] = 0
before_final (entry.Final ∷ rest) = 0
before_final (entry.Call sid call r ∷ rest) = suc (before_final rest)
before_final (entry.Input dev routed ∷ rest) = suc (before_final rest)
before_final (entry.Shot number ∷ rest) = suc (before_final rest)

-- The entry is of a session, it stands before the last picture, and its focus is the one there.
pub record IsThere (config : Configuration) (journal : List Entry) (e : ClipEntry) : Type 0 where
  pub session : e.sid < length config.clients
  pub within : e.at ≤ before_final journal
  pub focus : e.focus ≡ (replay config (take e.at journal)).input.focus

-- The places never fall; each entry is of a session and stands before the last picture, with the
-- focus that was there; and each reply is the answer by that focus and by the entries before it.
pub record IsLegalClips (config : Configuration) (journal : List Entry) (clips : List ClipEntry)
    : Type 0 where
  pub ordered : NeverFall 0 clips
  pub there : AllByRecursion (IsThere config journal) clips
  pub answered : AreAnswered clips
