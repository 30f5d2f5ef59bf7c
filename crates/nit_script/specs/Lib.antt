pub use Rattle.nit_events.specs.Ranges
pub use Rattle.nit_events.specs.Text
pub mod Spelling
pub mod Grammar
pub mod Phases
-- what the readers and writers of parts of a line do; the scripts' own clauses cite none of it
pub mod FieldReaders
pub mod CallReaders
pub mod LineReaders
pub mod InputReaders
pub mod Field
pub mod Below
pub mod Terms
