-- What the work on two configurations leaves, part by part.
use Rattle.std.specs.Prelude.{◌≡◌, ◌⊎◌, ◌+◌, List, [], ◌∷◌, ◌++◌, length, Option, IfSome}
use Rattle.nit_top.specs.Below.{AreOutputs, Entry, File, Headline, IsJournal, PutFault, PutsAll}
use Rattle.nit_top.specs.Below.{Setup, StoreModel, Worked, inner_journal_name, journal_text}
use Rattle.nit_top.specs.Below.{put_state_of_run, shots, unrefused}
use Rattle.nit_top.specs.Work.{end_of_run}
use Rattle.nit_setup.specs.declared.stop.End.TheVariants as end
use Rattle.nit_setup.specs.declared.stop.StopName.TheVariants as name

-- A run with this journal and so many pictures went to its end, and the text of another journal was
-- put behind its files; this put was refused, if one was.
pub record HasNested (inner : List Entry) (old : StoreModel) (s : Setup) (new : StoreModel)
    (journal : List Entry) (fault : Option PutFault) : Type 0 where
  pub is_journal : IsJournal s journal
  pub outputs : List File
  pub are : AreOutputs s journal outputs
  pub puts : PutsAll (outputs ++ (inner_journal_name, journal_text inner) ∷ [])
      (unrefused old) (put_state_of_run new fault)

-- what the work leaves after such a run
pub record IsAfterNested (inner : List Entry) (old : StoreModel) (s : Setup) (new : StoreModel)
    (w : Worked) : Type 0 where
  pub fault : Option PutFault
  pub has_run : HasNested inner old s new w.journal.items fault
  pub headline : Headline s w.journal.items has_run.outputs
  pub end_is : w.stop.end ≡ end_of_run fault
  pub name_is : IfSome fault (λ f. w.stop.name ≡ name.Put f.file)
  pub clients_are : w.clients ≡ length s.scripts
  pub frames_are : w.frames ≡ shots w.journal.items + 1

-- a setup was run, and the text put, or memory ran out before and nothing was done
abbrev pub PerformedNested : List Entry → StoreModel → Setup → StoreModel → Worked → Type 0
PerformedNested inner old s new w = IsAfterNested inner old s new w
    ⊎ ((w.stop.end ≡ end.NoMemory) × (new ≡ old) × (w.journal.items ≡ []))
