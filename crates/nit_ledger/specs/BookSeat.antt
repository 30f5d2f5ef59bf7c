-- What is seen of the seats of a book and of a share.
use Rattle.std.specs.Prelude.{◌≡◌, ℕ, ◌<◌, List, [], Option, Some, None}
use Rattle.nit_ledger.specs.Below.{BookView, OfBook, OfShare, Recorded, Seat, TableId, Token}
use Rattle.nit_ledger.specs.Book.{BookName, BookModel, ShareModel}
use Rattle.nit_ledger.specs.BookRule.{token, token_of, book_at_rest, book_with_share}

-- a seat of a book's table
abbrev pub BookSeat : Type 0
BookSeat = Seat (Unit {0}) BookView

abbrev pub entries_of : BookView → List Recorded
entries_of (OfBook es cs t) = es
entries_of other = []

abbrev pub counts_of : BookView → List ℕ
counts_of (OfBook es cs t) = cs
counts_of other = []

abbrev pub taken_of : BookView → Token
taken_of (OfBook es cs (Some t)) = t
taken_of other = token 0 0 []

-- the entries that the book's seat knows
abbrev pub entries_at : BookSeat → List Recorded
entries_at s = entries_of s.me.0

-- the counts that the book's seat knows
abbrev pub counts_at : BookSeat → List ℕ
counts_at s = counts_of s.me.0

-- the share that is taken in
abbrev pub taken_token : BookSeat → Token
taken_token s = taken_of s.me.0

-- what a share's seat knows
abbrev pub token_at : BookSeat → Token
token_at s = token_of s.me.0

-- the seat is of this table, which has a word
abbrev pub IsSeatOf : TableId → BookSeat → Type 0
IsSeatOf table s = (table ≡ s.table_id) × (0 < s.table_id.words)

-- the seat is the book's, and no share is taken in
abbrev pub IsResting : BookSeat → Type 0
IsResting s = s.me ≡ (book_at_rest (entries_at s) (counts_at s), [])

-- the seat is the book's, and a share is taken in
abbrev pub IsHolding : BookSeat → Type 0
IsHolding s = s.me ≡ (book_with_share (entries_at s) (counts_at s) (taken_token s), [])

-- the seat is a share's
abbrev pub IsShares : BookSeat → Type 0
IsShares s = s.me ≡ (OfShare (token_at s), [])

-- what contracts see of a book, by its seat
abbrev pub book_model_of : BookSeat → BookModel
book_model_of s = record { name = s.table_id; entries = entries_at s; counts = counts_at s }

-- no book's name
abbrev pub no_name : BookName
no_name =
    record {
      words = 0;
      slots = 0;
      views_name = 0;
      atom = 0;
      block = 0;
      offset = 0;
      slot_names = [];
    }

-- what contracts see of a share, by its seat
abbrev pub share_model_of : Option BookSeat → ShareModel
share_model_of (Some s) =
    record {
      name = s.table_id;
      number = (token_at s).number;
      count = (token_at s).count;
      seen = (token_at s).seen;
    }
share_model_of None = record { name = no_name; number = 0; count = 0; seen = [] }

-- between two calls a share has its seat
abbrev pub HasSeat : Option BookSeat → Type 0
HasSeat (Some s) = IsShares s
HasSeat None = ⊥
