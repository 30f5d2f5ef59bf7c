-- What the work on a run leaves that is filmed.
use Rattle.std.specs.Prelude.{◌≡◌, ◌⊎◌, [], length, IfSome}
use Rattle.nit_top.specs.Below.{HasFilmed, Headline, Ran, Region, Setup, StoreModel, Worked}
use Rattle.nit_top.specs.Work.{end_of_run}
use Rattle.nit_setup.specs.declared.stop.End.TheVariants as end
use Rattle.nit_setup.specs.declared.stop.StopName.TheVariants as name

-- what the work leaves after a run that went to its end
pub record IsAfterFilm (region : Region) (old : StoreModel) (s : Setup) (new : StoreModel)
    (w : Worked) : Type 0 where
  pub ran : Ran
  pub has_run : HasFilmed region old s new ran.journal.items ran.frames ran.fault
  pub headline : Headline s ran.journal.items has_run.outputs
  pub end_is : w.stop.end ≡ end_of_run ran.fault
  pub name_is : IfSome ran.fault (λ f. w.stop.name ≡ name.Put f.file)
  pub journal_is : w.journal.items ≡ ran.journal.items
  pub clients_are : w.clients ≡ length s.scripts
  pub frames_are : w.frames ≡ ran.frames

-- a setup was run and filmed, or memory ran out before and nothing was done
abbrev pub PerformedFilmed : Region → StoreModel → Setup → StoreModel → Worked → Type 0
PerformedFilmed region old s new w =
    IsAfterFilm region old s new w
    ⊎ ((w.stop.end ≡ end.NoMemory) × (new ≡ old) × (w.journal.items ≡ []))
