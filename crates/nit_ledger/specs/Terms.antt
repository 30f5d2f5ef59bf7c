-- The words that clauses use: those that come from outside, and those of this crate.
pub use Rattle.nit_ledger.specs.Below.{Allows, BookView, Joins, OfBook, OfShare, Recorded, Spent}
pub use Rattle.nit_ledger.specs.Below.{Splits, State, Token, keeps, opening, step}
pub use Rattle.nit_ledger.specs.Book.{IsShareOf, most_shares, raised, raised_by}
pub use Rattle.nit_ledger.specs.BookRule.{Bears, BearsShare, FitsView, IsBookAt, IsBookRule}
pub use Rattle.nit_ledger.specs.BookRule.{IsTokenInStep, StepDone, book_at_rest, book_with_share}
pub use Rattle.nit_ledger.specs.BookRule.{token}
pub use Rattle.nit_ledger.specs.BookSeat.{IsHolding, IsResting, IsSeatOf, IsShares, counts_at}
pub use Rattle.nit_ledger.specs.BookSeat.{entries_at, taken_token, token_at}
