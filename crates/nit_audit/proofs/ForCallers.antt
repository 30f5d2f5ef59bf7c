-- What other crates cite of audits: there is one verdict, and good entries stay good where they are cut.
pub use Rattle.nit_audit.proofs.GoodEntryLemmas.{good_fewer}
pub use Rattle.nit_audit.proofs.VerdictLemmas.{one_verdict}
