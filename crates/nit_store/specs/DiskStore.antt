-- The real files and the standard output.
use Rattle.std.specs.Prelude.{◌≡◌, ℕ, ◌≤◌, None, Result, Ok, Err}
use Rattle.nit_store.specs.Below.{Failed, NoMemory, PutError}
use Rattle.nit_store.specs.Store.{StoreModel, one_more}

-- how often reads and how often writes failed
pub record DiskStoreModel : Type 0 where
  pub reads : ℕ
  pub writes : ℕ

-- it tells the counts alone
abbrev pub disk_store_shown : DiskStoreModel → StoreModel
disk_store_shown f = record {
  read_faults = f.reads;
  write_faults = f.writes;
  files = None;
  said = None;
  asked = None;
}

-- a write that failed is counted, and no other; the count never falls
abbrev pub CountsWrite : {T : Type 0} → DiskStoreModel → DiskStoreModel → Result T PutError → Type 0
CountsWrite old new (Ok done) = new ≡ old
CountsWrite old new (Err Failed) =
    (new ≡ record old { writes = one_more old.writes }) × (old.writes ≤ new.writes)
CountsWrite old new (Err NoMemory) = new ≡ old
