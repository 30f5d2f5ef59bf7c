-- How the work of a command comes to its end, before the line is said.
use Rattle.std.specs.Prelude.{◌≡◌, ◌⊎◌, ℕ, List, [], length, Option, Some, None, IfSome}
use Rattle.nit_top.specs.Below.{Command, End, HasRun, Headline, PutError, PutFault, Ran, Setup}
use Rattle.nit_top.specs.Below.{StoreModel, Worked, name_text}
use Rattle.nit_top.specs.ProgramLines.{line_of}
use Rattle.nit_top.specs.Course.{Course}
use Rattle.nit_top.specs.Answer.{Came, Counts}
use Rattle.nit_store.specs.declared.store.PutError.TheVariants as put
use Rattle.nit_setup.specs.declared.stop.End.TheVariants as end
use Rattle.nit_setup.specs.declared.stop.StopName.TheVariants as name

-- ---- the work

-- how the work ends by the refusal of a put
abbrev pub end_of_put : PutError → End
end_of_put put.Failed = end.WriteFault
end_of_put put.NoMemory = end.NoMemory

-- how the work ends after a run, by the put that was refused
abbrev pub end_of_run : Option PutFault → End
end_of_run None = end.Whole
end_of_run (Some f) = end_of_put f.error

-- what the work leaves after a run that went to its end
pub record IsAfterRun (old : StoreModel) (s : Setup) (new : StoreModel) (w : Worked) : Type 0 where
  pub ran : Ran
  pub has_run : HasRun old s new ran
  pub headline : Headline s ran.journal.items has_run.outputs
  pub end_is : w.stop.end ≡ end_of_run ran.fault
  pub name_is : IfSome ran.fault (λ f. w.stop.name ≡ name.Put f.file)
  pub journal_is : w.journal.items ≡ ran.journal.items
  pub clients_are : w.clients ≡ length s.scripts
  pub frames_are : w.frames ≡ ran.frames

-- a setup was run, or memory ran out before and nothing was done
abbrev pub Performed : StoreModel → Setup → StoreModel → Worked → Type 0
Performed old s new w = IsAfterRun old s new w
    ⊎ ((w.stop.end ≡ end.NoMemory) × (new ≡ old) × (w.journal.items ≡ []))

-- the line on how the work of a command came to its end
abbrev pub line_on : Command → Worked → List ℕ
line_on c w = line_of w.stop.end (name_text c w.stop.name)
    (record { clients = w.clients; entries = length w.journal.items; frames = w.frames })

-- the work of a command came to its end
pub record Ends (c : Command) (old new : StoreModel) (w : Worked) : Type 0 where
  pub course : Course old c w.journal.items
  pub came : Came course new.files new.asked w.stop.end (line_on c w)
  pub counts : Counts old new w.stop.end
  pub said : new.said ≡ old.said
