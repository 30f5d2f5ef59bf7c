pub mod Ranges
pub mod FreeLists
pub mod HandleLists
pub mod Basics
pub mod Lemmas
