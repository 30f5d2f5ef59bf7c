pub use Rattle.nit_slots.specs.Account
pub use Rattle.nit_slots.specs.Table
pub use Rattle.nit_journal.specs.Session
pub mod Machine
pub mod Below
pub mod Terms
