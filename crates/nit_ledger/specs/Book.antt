-- What contracts see of a book and of a share.
use Rattle.std.specs.Prelude.{◌≡◌, ℕ, ◌+◌, ◌<◌, List, length, map, slice_index, slice_set}
use mathlib.Core.List.{IsPrefix}
use Rattle.nit_ledger.specs.Below.{Entry, Recorded, TableId}

-- shares of one book
abbrev pub most_shares : ℕ
most_shares = 64

-- which book it is
abbrev pub BookName : Type 0
BookName = TableId

-- the journal's entries among these, in order
abbrev pub entries_in : List Recorded → List Entry
entries_in recorded = map (λ (r : Recorded). r.entry) recorded

-- the raw words after each, in order
abbrev pub raws_in : List Recorded → List (List ℕ)
raws_in recorded = map (λ (r : Recorded). r.raw) recorded

-- A book: its name, its entries, each with the raw words after it, and the count of each share
-- that it has made.
pub record BookModel : Type 0 where
  pub name : BookName
  pub entries : List Recorded
  pub counts : List ℕ

-- a share: the name of its book, its number, its count, and the entries that it has seen
pub record ShareModel : Type 0 where
  pub name : BookName
  pub number : ℕ
  pub count : ℕ
  pub seen : List Recorded

-- the count at this number has risen by so much
abbrev pub raised_by : List ℕ → ℕ → ℕ → List ℕ
raised_by counts number k = slice_set counts number (slice_index counts number + k)

-- the count at this number has risen by one
abbrev pub raised : List ℕ → ℕ → List ℕ
raised counts number = raised_by counts number 1

-- a share of this number, count and `seen` is in step with these entries and counts: its number is
-- below the number of counts, its count is the one there, and it has seen a front of the entries
pub record IsInStep (entries : List Recorded) (counts : List ℕ) (number count : ℕ)
    (seen : List Recorded) : Type 0 where
  pub below : number < length counts
  pub counted : slice_index counts number ≡ count
  pub front : IsPrefix seen entries

-- the share is in step with the book
abbrev pub IsShareOf : BookModel → ShareModel → Type 0
IsShareOf book share = IsInStep book.entries book.counts share.number share.count share.seen
