-- What other crates cite of texts: the digits of a number, and lists of which each element has a property.
pub use Rattle.nit_report.proofs.GeneratedClients.{few_digits}
pub use Rattle.nit_rect.proofs.ForCallers.{all_append}
pub use Rattle.nit_report.proofs.EntryLaws.{journal_reading}
pub use Rattle.nit_report.proofs.EntryLaws.{read_and_bad}
