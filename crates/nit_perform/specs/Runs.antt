-- What a run leaves: its journal, and its files up to a put that was refused.
use Rattle.std.specs.Prelude.{◌≡◌, ◌+◌, Bool, true, false, List, Option, option_map, Result, Ok}
use Rattle.std.specs.Prelude.{Err}
use Rattle.nit_perform.specs.Below.{AreOutputs, Entry, File, IsJournal, NoMemory, PutFault}
use Rattle.nit_perform.specs.Below.{PutRefusal, PutState, PutsAll, Ran, Setup, StoreModel}
use Rattle.nit_perform.specs.Below.{output_name, shots, unrefused}
use Rattle.nit_events.specs.declared.entry.Entry.TheVariants as entry

-- the put that was refused
abbrev pub refusal_of : PutFault → PutRefusal
refusal_of f = record { name = output_name f.file; error = f.error }

-- what the store shows, and the put that was refused, if one was
abbrev pub put_state_of_run : StoreModel → Option PutFault → PutState
put_state_of_run shown fault = record { shown = shown; refused = option_map refusal_of fault }

-- the entry is a shot
abbrev pub is_shot_entry : Entry → Bool
is_shot_entry (entry.Shot number) = true
is_shot_entry other = false

-- what a run leaves that has this journal, where this put was refused, if one was
pub record IsRunOf (journal : List Entry) (fault : Option PutFault) (ran : Ran) : Type 0 where
  pub journal_is : ran.journal.items ≡ journal
  pub frames : ran.frames ≡ shots journal + 1
  pub fault_is : ran.fault ≡ fault

-- a file was put behind those of a run: its journal and the number of its pictures stay
pub record IsSameRun (before after' : Ran) : Type 0 where
  pub journal : after'.journal.items ≡ before.journal.items
  pub frames : after'.frames ≡ before.frames

-- the run went to its end
pub record HasRun (old : StoreModel) (s : Setup) (new : StoreModel) (ran : Ran) : Type 0 where
  pub journal : IsJournal s ran.journal.items
  pub frames : ran.frames ≡ shots ran.journal.items + 1
  pub outputs : List File
  pub are : AreOutputs s ran.journal.items outputs
  pub puts : PutsAll outputs (unrefused old) (put_state_of_run new ran.fault)

-- the run went to its end, or was not begun for want of memory
abbrev pub Runs : StoreModel → Setup → StoreModel → Result Ran NoMemory → Type 0
Runs old s new (Ok ran) = HasRun old s new ran
Runs old s new (Err error) = new ≡ old
