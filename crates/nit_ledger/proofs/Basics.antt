-- What lemmas use: the words of clauses, the library's lemmas, and those of the crates below.
pub use Rattle.atomic_table.proofs.Lists.{at_last, at_longer, at_set, set_else, set_here}
pub use Rattle.nit_ledger.specs.Terms.{Allows, Bears, BearsShare, BookView, FitsView, IsBookAt}
pub use Rattle.nit_ledger.specs.Terms.{IsBookRule, IsTokenInStep, Joins, OfBook, OfShare, Recorded}
pub use Rattle.nit_ledger.specs.Terms.{Spent, Splits, State, StepDone, Token, book_at_rest}
pub use Rattle.nit_ledger.specs.Terms.{book_with_share, counts_at, entries_at, keeps, opening}
pub use Rattle.nit_ledger.specs.Terms.{raised_by, step, taken_token, token, token_at}
pub use Rattle.std.proofs.Common.{ap, sym, ◌∙◌}
pub use Rattle.std.proofs.Math.Seq.{get_or-append_seam}
pub use Rattle.std.proofs.lemmas.Bool.{cases_eq}
pub use Rattle.std.proofs.lemmas.List.{append-nil, get_or_append_left, length-set, set-get_or}
