-- What a run with another within it tells of that one: its journal, and what is seen of its last
-- frame.
use Rattle.std.specs.Prelude.{◌≡◌, ℕ, ◌*◌, ◌<◌, List, [], ◌∷◌, length, map, slice_index}
use Rattle.nit_run.specs.Below.{Entry, File, Word, journal_text, picture, replay, source_at}
use Rattle.nit_run.specs.Setup.{RunFiles, Setup, by_turns}
use Rattle.nit_run.specs.Outputs.{AreOutputs, IsJournal}
use Rattle.nit_run.specs.InnerFrames.{frames_of, last_frame}
use Rattle.nit_run.specs.RunFilm.{pictures_in}
use Rattle.nit_run.specs.RunInner.{inner_journal_name}
use Rattle.nit_run.specs.Headline.{HoldsAtEnd, IsServedAlone}

-- What a command puts behind its run's files tells of the run of the inner files.
pub record TellsInnerRun (i : RunFiles) (added : List File) : Type 0 where
  -- it is the text of one journal
  pub journal : List Entry
  pub added_is : added ≡ (inner_journal_name, journal_text journal) ∷ []
  -- the journal is that of a run by turns: it is legal, and whole for the inner scripts
  pub is_journal : IsJournal (by_turns i) journal
  -- each inner client is served as if it were alone
  pub clients : (sid : ℕ) → sid < length i.config.clients
      → IsServedAlone i.config i.scripts journal sid
  -- a run by turns of these files with this journal puts the pictures of the inner frames
  pub frames : (files : List File) → (are : AreOutputs (by_turns i) journal files)
      → pictures_in are ≡ map (picture i.config.width i.config.height) (frames_of i)

-- A word that a pixel may hold in the last picture. Where its source is a place in the first
-- session's buffer, the place lies in the last inner frame, and the word is the frame's.
abbrev pub HoldsInner : Setup → List Entry → RunFiles → ℕ → ℕ → Type 0
HoldsInner s journal i k w = HoldsAtEnd s journal k w
    × ((j : ℕ) → source_at (replay s.config journal) k ≡ Word 0 j
    → (j < i.config.width * i.config.height) × (w ≡ slice_index (last_frame i) j))
