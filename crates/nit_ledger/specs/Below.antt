-- The words of the library and of the crates below that are used here, and the crate's plain types.
pub use Rattle.atomic_table.specs.Seated.{TableId}
pub use Rattle.atomic_table.specs.Table.{Allows, Joins, Me, Splits, State, Step, keeps, opening}
pub use Rattle.atomic_table.specs.Table.{step}
pub use Rattle.atomic_table.specs.declared.shared.Seat.{Seat}
pub use Rattle.nit_events.specs.declared.entry.Entry.{Entry}
pub use Rattle.nit_ledger.specs.declared.view.BookView.{BookView}
pub use Rattle.nit_ledger.specs.declared.view.BookView.TheVariants.{OfBook, OfShare, Spent}
pub use Rattle.nit_ledger.specs.declared.view.Recorded.{Recorded}
pub use Rattle.nit_ledger.specs.declared.view.Token.{Token}
