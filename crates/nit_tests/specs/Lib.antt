pub mod HallOpening
pub mod Painted
pub use Rattle.nit_config.specs.Configuration
pub use Rattle.nit_config.specs.ConfigurationRanges
pub use Rattle.nit_plan.specs.ScriptWords
pub use Rattle.nit_plan.specs.SessionLists
