-- What other crates cite of configurations: what is read is in range, and a text has one answer.
pub use Rattle.nit_config.proofs.OneAnswer.{not_both, one_configuration}
pub use Rattle.nit_config.proofs.AcceptedTables.{run_configured, still_configured}
