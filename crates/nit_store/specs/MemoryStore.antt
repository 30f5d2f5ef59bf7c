-- A store in memory, of which chosen calls fail.
use Rattle.std.specs.Prelude.{◌≡◌, ℕ, ◌+◌, ◌⊎◌, List, [], Some, None, Contains}
use Rattle.nit_store.specs.Store.{File, StoreModel, one_more, file_at}

-- its files, what was said, which names were asked for, how often reads and how often writes
-- failed, how many calls were made (each count up to the last value of a counter), and the numbers
-- of the calls that are to fail
pub record MemoryStoreModel : Type 0 where
  pub files : List File
  pub said : List ℕ
  pub asked : List (List ℕ)
  pub read_faults : ℕ
  pub write_faults : ℕ
  pub calls : ℕ
  pub failing : List ℕ

-- with these files and these calls to fail, before its first call
abbrev pub fresh_memory_store : List File → List ℕ → MemoryStoreModel
fresh_memory_store files failing = record {
  files = files;
  said = [];
  asked = [];
  read_faults = 0;
  write_faults = 0;
  calls = 0;
  failing = failing;
}

-- it tells everything
abbrev pub memory_store_shown : MemoryStoreModel → StoreModel
memory_store_shown m = record {
  read_faults = m.read_faults;
  write_faults = m.write_faults;
  files = Some m.files;
  said = Some m.said;
  asked = Some m.asked;
}

-- the next call is one of those that are to fail; a call after the last value of a counter is not,
-- since no number in the list is greater
abbrev pub FailsNext : MemoryStoreModel → Type 0
FailsNext m = Contains m.failing (m.calls + 1)

-- the next call is a read of this name that fails: it is to fail, or the name is not there
abbrev pub FailsToRead : MemoryStoreModel → List ℕ → Type 0
FailsToRead m name = FailsNext m ⊎ (file_at name m.files ≡ None)

-- one call more was made, and the same calls are to fail
pub record CountsCall (old new : MemoryStoreModel) : Type 0 where
  pub calls : new.calls ≡ one_more old.calls
  pub failing : new.failing ≡ old.failing
