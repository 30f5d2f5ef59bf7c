pub use Rattle.nit_config.specs.ConfigurationRanges
pub use Rattle.nit_journal.specs.Replay
pub use Rattle.nit_journal.specs.Projection
pub use Rattle.nit_journal.specs.WholeJournals
pub use Rattle.nit_plan.specs.Calls
pub mod GoodEntries
pub mod Verdict
-- what the audit keeps, which no public clause cites
pub mod Underway
pub mod Keys
pub mod AuditReplay
pub mod Below
pub mod Terms
