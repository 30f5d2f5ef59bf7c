-- What a run leaves that is filmed.
use Rattle.std.specs.Prelude.{◌≡◌, ℕ, ◌+◌, List, [], ◌∷◌, ◌++◌, Option, Result, Ok, Err}
use Rattle.nit_perform.specs.Below.{AreOutputs, CaptureModel, Configuration, Entry, File, IsJournal}
use Rattle.nit_perform.specs.Below.{NoMemory, PutFault, PutsAll, Ran, Region, Setup, StoreModel}
use Rattle.nit_perform.specs.Below.{film_name, film_of, first_capture, pictures_in, rectangle_of}
use Rattle.nit_perform.specs.Below.{shots, unrefused}
use Rattle.nit_perform.specs.Runs.{put_state_of_run}

-- the capture of a region, before the first picture
abbrev pub begun_of : Region → Configuration → CaptureModel
begun_of region config = first_capture config.width config.height (rectangle_of region)

-- A run with this journal and so many pictures went to its end, and the film of a region was put
-- behind its files; this put was refused, if one was.
pub record HasFilmed (region : Region) (old : StoreModel) (s : Setup) (new : StoreModel)
    (journal : List Entry)
    (frames : ℕ) (fault : Option PutFault) : Type 0 where
  pub is_journal : IsJournal s journal
  pub frames_are : frames ≡ shots journal + 1
  pub outputs : List File
  pub are : AreOutputs s journal outputs
  pub puts : PutsAll (outputs ++ (film_name, film_of region s.config (pictures_in are)) ∷ [])
      (unrefused old) (put_state_of_run new fault)

-- the run went to its end, or was not begun for want of memory
abbrev pub RunsFilmed : Region → StoreModel → Setup → StoreModel → Result Ran NoMemory → Type 0
RunsFilmed region old s new (Ok ran) =
    HasFilmed region old s new ran.journal.items ran.frames ran.fault
RunsFilmed region old s new (Err error) = new ≡ old
