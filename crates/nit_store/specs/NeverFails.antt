-- A store in memory that never fails.
use Rattle.nit_store.specs.Below.{List, None, Some, ℕ}
use Rattle.nit_store.specs.Store.{File, StoreModel}

-- its files, and what was said
pub record NeverFailsModel : Type 0 where
  pub files : List File
  pub said : List ℕ

-- it tells its files and what was said, and nothing failed
abbrev pub never_fails_shown : NeverFailsModel → StoreModel
never_fails_shown s = record {
  read_faults = 0;
  write_faults = 0;
  files = Some s.files;
  said = Some s.said;
  asked = None;
}
