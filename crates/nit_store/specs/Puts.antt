-- Files that are put one after the other, until a put is refused.
use Rattle.std.specs.Prelude.{◌≡◌, ℕ, List, [], ◌∷◌, Option, Some, None, Result, Ok, Err}
use Rattle.nit_store.specs.Below.{PutError}
use Rattle.nit_store.specs.Store.{File, StoreModel}
use Rattle.nit_store.specs.StoreAnswers.{AfterPut}

-- a put that was refused: under which name, and why
pub record PutRefusal : Type 0 where
  pub name : List ℕ
  pub error : PutError

-- what the store shows while files are put, and the put that was refused, if one was
pub record PutState : Type 0 where
  pub shown : StoreModel
  pub refused : Option PutRefusal

-- the refusal that the answer to a put under this name is
abbrev pub refusal_by : {T : Type 0} → List ℕ → Result T PutError → Option PutRefusal
refusal_by name (Ok done) = None
refusal_by name (Err e) = Some (record { name = name; error = e })

-- A file is put, and a refusal is kept. Want of memory for its bytes counts as a put that is
-- refused.
pub record PutsFile (file : File) (old new : PutState) : Type 0 where
  pub answer : Result (Unit {0}) PutError
  pub put : AfterPut old.shown file.0 file.1 new.shown answer
  pub kept : new.refused ≡ refusal_by file.0 answer

-- a file is put, unless a put was refused before; then nothing changes
abbrev pub PutsUnless : Option PutRefusal → File → PutState → PutState → Type 0
PutsUnless (Some r) file old new = new ≡ old
PutsUnless None file old new = PutsFile file old new

abbrev pub PutsNext : File → PutState → PutState → Type 0
PutsNext file old new = PutsUnless old.refused file old new

-- files are put, one after the other, until a put is refused
abbrev pub PutsAll : List File → PutState → PutState → Type 0
PutsAll [] old new = new ≡ old
PutsAll (file ∷ files) old new = (mid : PutState) × PutsNext file old mid × PutsAll files mid new

-- a store of which no put was refused yet
abbrev pub unrefused : StoreModel → PutState
unrefused shown = record { shown = shown; refused = None }
