pub use Rattle.nit_rect.specs.Rectangle
pub use Rattle.nit_rect.specs.Intersection
pub use Rattle.nit_word.specs.Channels
pub use Rattle.nit_word.specs.Inks
pub mod Tiles
pub mod Film
pub mod Crop
pub mod Capture
pub mod Player
-- what the private writers and readers do, which no public clause cites
pub mod Appends
pub mod RecordReaders
pub mod Below
pub mod Terms
