-- What a run with clip scripts leaves.
use Rattle.std.specs.Prelude.{◌≡◌, ℕ, ◌+◌, List, [], ◌∷◌, ◌++◌, Option, Result, Ok, Err}
use Rattle.nit_perform.specs.Below.{AreOutputs, ClipLine, Configuration, Entry, File, IsClipFile}
use Rattle.nit_perform.specs.Below.{IsJournal, NoMemory, PutFault, PutsAll, Ran, Scripts, Setup}
use Rattle.nit_perform.specs.Below.{StoreModel, shots, unrefused}
use Rattle.nit_perform.specs.Runs.{put_state_of_run}
use Rattle.nit_perform.specs.ClipRoom.{clips_setup}

-- ---- the run

-- the setup of a run of these scripts with these clip scripts
abbrev pub clips_setup_of : Configuration → Scripts → List (List ClipLine) → Setup
clips_setup_of config scripts clips =
    clips_setup config scripts.clients.items scripts.input clips

-- A run with this journal and so many pictures went to its end, and the text of its clip list was
-- put behind its files; this put was refused, if one was.
pub record HasRunClips (old : StoreModel) (s : Setup) (new : StoreModel) (journal : List Entry)
    (frames : ℕ) (fault : Option PutFault) : Type 0 where
  pub is_journal : IsJournal s journal
  pub frames_are : frames ≡ shots journal + 1
  pub outputs : List File
  pub are : AreOutputs s journal outputs
  pub file : File
  pub file_is : IsClipFile s journal file
  pub puts : PutsAll (outputs ++ file ∷ []) (unrefused old) (put_state_of_run new fault)

-- the run went to its end, or was not begun for want of memory
abbrev pub RunsClips : StoreModel → Setup → StoreModel → Result Ran NoMemory → Type 0
RunsClips old s new (Ok ran) = HasRunClips old s new ran.journal.items ran.frames ran.fault
RunsClips old s new (Err error) = new ≡ old
