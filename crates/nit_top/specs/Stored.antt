-- What the store holds at the end.
use Rattle.std.specs.Prelude.{◌≡◌, ◌≢◌, ℕ, List, [], ◌++◌, Option, Some, None, All}
use Rattle.nit_top.specs.Below.{Command, Entry, File, PutFiles, StoreModel, file_at}
use Rattle.nit_top.specs.Course.{Begun, Course, NotBegun, made_by}

-- Each of these files stands under its name, with its bytes. What has another name is as it was.
pub record Stand (files old new : List File) : Type 0 where
  pub each : All (λ f. file_at f.0 new ≡ Some f.1) files
  pub others : (name : List ℕ) → All (λ f. f.0 ≢ name) files → file_at name new ≡ file_at name old

-- so it is where the store tells its files
abbrev pub StandIn : List File → Option (List File) → Option (List File) → Type 0
StandIn files None new = new ≡ None
StandIn files (Some old) new = (now : List File) × (new ≡ Some now) × Stand files old now

-- the files that a command is to put, in order: those of its run; or where none was begun, those
-- that it makes before
abbrev pub to_put : {old : StoreModel} {c : Command} {journal : List Entry}
    → Course old c journal → List File
to_put (Begun run) = run.puts
to_put {c = c} (NotBegun empty) = made_by c

-- The first of some files were put, and at status 0 all of them. Each that was put stands in the
-- store.
pub record AreStored (files : List File) (status : ℕ)
    (old new : Option (List File)) : Type 0 where
  pub front : List File
  pub back : List File
  pub parts : files ≡ front ++ back
  pub whole : status ≡ 0 → back ≡ []
  pub put : PutFiles front old new
  pub stand : StandIn front old new
