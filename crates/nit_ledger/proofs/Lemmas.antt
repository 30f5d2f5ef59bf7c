-- What answers use: all that lemmas use, and this crate's lemmas.
pub use Rattle.nit_ledger.proofs.Basics.{ap, append-nil, counts_at, entries_at, sym, taken_token}
pub use Rattle.nit_ledger.proofs.Basics.{token_at, ◌∙◌}
pub use Rattle.nit_ledger.proofs.BookRuleLemmas.{begins, does, gives, opens, raised_by-zero, takes}
