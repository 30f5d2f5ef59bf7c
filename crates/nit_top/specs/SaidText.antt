-- A text that is said in pieces.
use Rattle.std.specs.Prelude.{◌≡◌, List, ℕ, ◌++◌, Result, Ok, Err}
use Rattle.nit_top.specs.Below.{PutError, StoreModel, WriteFaulted, with_said}
use Rattle.nit_store.specs.declared.store.PutError.TheVariants as put

-- what a refusal of a saying leaves
abbrev pub SayingRefused : StoreModel → StoreModel → PutError → Type 0
SayingRefused old new put.Failed = WriteFaulted old new
SayingRefused old new put.NoMemory = new ≡ old

-- The text was said; or a front of it, up to a refusal.
abbrev pub Says : {T : Type 0} → StoreModel → List ℕ → StoreModel → Result T PutError → Type 0
Says old text new (Ok done) = new ≡ with_said old text
Says old text new (Err e) = (front : List ℕ) × (back : List ℕ) × (text ≡ front ++ back)
    × SayingRefused (with_said old front) new e
