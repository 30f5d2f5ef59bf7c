-- What each answer of a store means.
use Rattle.std.specs.Prelude.{◌≡◌, ℕ, ◌<◌, ◌≤◌, ◌⊎◌, List, length, Result, Ok, Err, IfSome, Vec}
use Rattle.nit_store.specs.Below.{Global, PutError, ReadError}
use Rattle.nit_store.specs.declared.store.ReadError.TheVariants as read
use Rattle.nit_store.specs.declared.store.PutError.TheVariants as put
use Rattle.nit_store.specs.Store.{StoreModel, bytes_of, with_said, with_asked, ReadFaulted}
use Rattle.nit_store.specs.Store.{WriteFaulted, PutIn}

-- nothing changed, but that the name may stand among those that were asked for
abbrev pub AskedAtMost : StoreModel → List ℕ → StoreModel → Type 0
AskedAtMost old name new = (new ≡ with_asked old name) ⊎ (new ≡ old)

-- what a read of this name, of at most max bytes, answers and leaves
abbrev pub AfterRead : StoreModel → List ℕ → ℕ → StoreModel → Result (Vec ℕ Global) ReadError
    → Type 0
AfterRead old name max new (Ok bytes) =
    (new ≡ with_asked old name) × (length bytes.items ≤ max)
    × IfSome old.files (λ files. bytes.items ≡ bytes_of name files)
AfterRead old name max new (Err read.Failed) = ReadFaulted (with_asked old name) new
AfterRead old name max new (Err read.TooLong) =
    (new ≡ with_asked old name) × IfSome old.files (λ files. max < length (bytes_of name files))
AfterRead old name max new (Err read.NoMemory) = AskedAtMost old name new

-- what a put of these bytes under this name answers and leaves
abbrev pub AfterPut : {T : Type 0} → StoreModel → List ℕ → List ℕ → StoreModel → Result T PutError
    → Type 0
AfterPut old name bytes new (Ok done) =
    (new ≡ record (with_asked old name) { files = new.files })
    × PutIn name bytes old.files new.files
AfterPut old name bytes new (Err put.Failed) = WriteFaulted (with_asked old name) new
AfterPut old name bytes new (Err put.NoMemory) = AskedAtMost old name new

-- what a saying of this text answers and leaves
abbrev pub AfterSay : {T : Type 0} → StoreModel → List ℕ → StoreModel → Result T PutError → Type 0
AfterSay old text new (Ok done) = new ≡ with_said old text
AfterSay old text new (Err put.Failed) = WriteFaulted old new
AfterSay old text new (Err put.NoMemory) = new ≡ old
