-- The rule of a book and its shares, and what each kind of step does to the views.
use Rattle.std.specs.Prelude.{◌≡◌, ℕ, ◌+◌, ◌<◌, List, [], ◌∷◌, ◌++◌, length, Option, Some, None}
use mathlib.Core.Option.{some}
use lib.ListN.{get_elem?}
use Rattle.nit_ledger.specs.Below.{BookView, Me, OfBook, OfShare, Recorded, Spent, State, Step}
use Rattle.nit_ledger.specs.Below.{Token}
use Rattle.nit_ledger.specs.Book.{raised_by, IsInStep}

-- what a share knows
abbrev pub token : ℕ → ℕ → List Recorded → Token
token number count seen = record { number = number; count = count; seen = seen }

-- a book in which no share is taken in
abbrev pub book_at_rest : List Recorded → List ℕ → BookView
book_at_rest es cs = OfBook es cs None

-- a book in which this share is taken in
abbrev pub book_with_share : List Recorded → List ℕ → Token → BookView
book_with_share es cs t = OfBook es cs (Some t)

-- the share is in step with these entries and counts
abbrev pub IsTokenInStep : List Recorded → List ℕ → Token → Type 0
IsTokenInStep es cs t = IsInStep es cs t.number t.count t.seen

-- the share that the book has taken in, if any, is in step, and the book's seat is the holder of
-- its number
abbrev pub IsTakenInStep : List Recorded → List ℕ → ℕ → (ℕ → ℕ) → Option Token → Type 0
IsTakenInStep es cs seat holder None = Unit {0}
IsTakenInStep es cs seat holder (Some t) = IsTokenInStep es cs t × (holder t.number ≡ seat)

-- What the rule says of the view of the seat `by`: a book's view is that of the one seat and has
-- the one list of entries and of counts; a share's is that of the holder of its number, and the
-- share is in step.
abbrev pub FitsView : List Recorded → List ℕ → ℕ → (ℕ → ℕ) → ℕ → BookView → Type 0
FitsView es cs seat holder by (OfBook e c t) =
    (by ≡ seat) × (e ≡ es) × (c ≡ cs) × IsTakenInStep es cs seat holder t
FitsView es cs seat holder by (OfShare t) = (holder t.number ≡ by) × IsTokenInStep es cs t
FitsView es cs seat holder by Spent = Unit {0}

-- the view has the share of the number n
abbrev pub Bears : ℕ → BookView → Type 0
Bears n (OfBook es cs (Some t)) = t.number ≡ n
Bears n (OfBook es cs None) = ⊥
Bears n (OfShare t) = t.number ≡ n
Bears n Spent = ⊥

-- the view of the seat `by` has the share of the number n
abbrev pub BearsShare : List BookView → ℕ → ℕ → Type 0
BearsShare views by n = (v : BookView) × (get_elem? views by ≡ some v) × Bears n v

-- the view of this seat is a book's, with these entries and counts
abbrev pub IsBookAt : List BookView → ℕ → List Recorded → List ℕ → Type 0
IsBookAt views seat es cs =
    (taken : Option Token) × (get_elem? views seat ≡ some (OfBook es cs taken))

-- The rule: there are entries, counts, the one seat of the book, and a seat that holds each number.
-- The book's view stands at its seat. Each view fits these, so no other seat has a book's view, and
-- no number has two shares. The holder of each number below the number of counts has the share of
-- that number. The one word is 0.
pub record IsBookRule (s : State (Unit {0}) BookView) : Type 0 where
  pub entries : List Recorded
  pub counts : List ℕ
  pub seat : ℕ
  pub holder : ℕ → ℕ
  pub word : s.words ≡ 0 ∷ []
  pub book : IsBookAt s.views seat entries counts
  pub fits : (by : ℕ) (v : BookView) → get_elem? s.views by ≡ some v
      → FitsView entries counts seat holder by v
  pub held : (n : ℕ) → n < length counts → BearsShare s.views (holder n) n

-- a new share is split off: the book has one more count
abbrev pub book_after_split : BookView → BookView
book_after_split (OfBook es cs t) = OfBook es (cs ++ 0 ∷ []) t
book_after_split (OfShare t) = OfShare t
book_after_split Spent = Spent

-- and the share has the next number, has counted nothing and has seen all entries
abbrev pub newest_share : BookView → BookView
newest_share (OfBook es cs t) = OfShare (token (length cs) 0 es)
newest_share (OfShare t) = Spent
newest_share Spent = Spent

-- what the view of a share knows
abbrev pub token_of : BookView → Token
token_of (OfBook es cs t) = token 0 0 []
token_of (OfShare t) = t
token_of Spent = token 0 0 []

-- a share is taken in, where none is
abbrev pub with_share : BookView → BookView → BookView
with_share (OfBook es cs None) v = book_with_share es cs (token_of v)
with_share (OfBook es cs (Some t)) v = book_with_share es cs t
with_share (OfShare t) v = OfShare t
with_share Spent v = Spent

-- the share is given back: the book has none
abbrev pub without_share : BookView → BookView
without_share (OfBook es cs t) = OfBook es cs None
without_share (OfShare t) = OfShare t
without_share Spent = Spent

-- and a view of its own has it
abbrev pub share_in : BookView → BookView
share_in (OfBook es cs (Some t)) = OfShare t
share_in (OfBook es cs None) = Spent
share_in (OfShare t) = Spent
share_in Spent = Spent

-- the share that is taken in was in step; entries are added, its count and the book's count at its
-- number rise, and it has seen all entries; where none is taken in, nothing changes
abbrev pub ShareChanged : List Recorded → ℕ → BookView → BookView → Type 0
ShareChanged added risen (OfBook es cs (Some t)) w =
    (w ≡ book_with_share (es ++ added) (raised_by cs t.number risen)
    (token t.number (t.count + risen) (es ++ added))) × IsTokenInStep es cs t
ShareChanged added risen (OfBook es cs None) w = w ≡ book_at_rest es cs
ShareChanged added risen (OfShare t) w = w ≡ OfShare t
ShareChanged added risen Spent w = w ≡ Spent

-- what a step tells, in which the share that is taken in does this
abbrev pub StepDone : List Recorded → ℕ → Step (Unit {0}) → Me (Unit {0}) BookView → ℕ
    → Me (Unit {0}) BookView → Type 0
StepDone added risen step before n after = ShareChanged added risen before.0 after.0
    × (after.1 ≡ before.1)
