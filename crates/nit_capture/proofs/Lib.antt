pub mod Tiles
pub mod TilesRead
pub mod Records
pub mod CropLemmas
pub mod Basics
pub mod Lemmas
