pub use Rattle.nit_word.specs.Channels
pub mod Picture
pub mod EntrySpelling
pub mod JournalText
pub mod EventsText
pub mod Draw
pub mod Files
pub mod Generator
-- what the private readers do, which no public clause cites
pub mod EntryReaders
pub mod Below
pub mod Terms
