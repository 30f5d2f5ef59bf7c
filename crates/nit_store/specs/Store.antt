-- What contracts see of a store.
use Rattle.std.specs.Prelude.{◌≡◌, ◌≢◌, ℕ, ◌+◌, ◌-◌, ◌^◌, ◌≤◌, min, List, [], ◌∷◌, ◌++◌, Option}
use Rattle.std.specs.Prelude.{Some, None, unwrap_or, option_map, if◌then◌else◌}
use Rattle.nit_store.specs.Below.{bytes_eq}

-- a file: its name and its bytes
abbrev pub File : Type 0
File = List ℕ × List ℕ

-- the two counts of failures, and, where the store tells them, its files, what was said and which
-- names were asked for
pub record StoreModel : Type 0 where
  pub read_faults : ℕ
  pub write_faults : ℕ
  pub files : Option (List File)
  pub said : Option (List ℕ)
  pub asked : Option (List (List ℕ))

-- one more, up to the last value of a counter
abbrev pub one_more : ℕ → ℕ
one_more count = min (count + 1) (2 ^ 64 - 1)

-- a count is greater than before, or stands at the last value of a counter
abbrev pub Rose : ℕ → ℕ → Type 0
Rose before now = one_more before ≤ now

-- the bytes under a name, if it is there: those of the first file of that name
abbrev pub file_at : List ℕ → List File → Option (List ℕ)
file_at name [] = None
file_at name (f ∷ fs) = if bytes_eq f.0 name then Some f.1 else file_at name fs

-- the bytes under a name, or no bytes where it is not there
abbrev pub bytes_of : List ℕ → List File → List ℕ
bytes_of name files = unwrap_or (file_at name files) []

-- this name has these bytes now, and every other name is as it was
pub record IsPut (name bytes : List ℕ) (old new : List File) : Type 0 where
  pub this : file_at name new ≡ Some bytes
  pub others : (other : List ℕ) → other ≢ name → file_at other new ≡ file_at other old

-- the new files are the old ones with these bytes put under this name; files that are not told
-- stay untold
abbrev pub PutIn : List ℕ → List ℕ → Option (List File) → Option (List File) → Type 0
PutIn name bytes None new = new ≡ None
PutIn name bytes (Some old) new =
    (files : List File) × (new ≡ Some files) × IsPut name bytes old files

-- a store with this text at the end of what was said, where that is told
abbrev pub with_said : StoreModel → List ℕ → StoreModel
with_said shown text = record shown { said = option_map (λ said. said ++ text) shown.said }

-- a store with this name at the end of the names that were asked for, where they are told
abbrev pub with_asked : StoreModel → List ℕ → StoreModel
with_asked shown name =
    record shown { asked = option_map (λ names. names ++ name ∷ []) shown.asked }

-- the count of failed reads rose, and all else is as it was
pub record ReadFaulted (old new : StoreModel) : Type 0 where
  pub later : old.read_faults ≤ new.read_faults
  pub rose : Rose old.read_faults new.read_faults
  pub rest : new ≡ record old { read_faults = new.read_faults }

-- the count of failed writes rose, and all else is as it was
pub record WriteFaulted (old new : StoreModel) : Type 0 where
  pub later : old.write_faults ≤ new.write_faults
  pub rose : Rose old.write_faults new.write_faults
  pub rest : new ≡ record old { write_faults = new.write_faults }
