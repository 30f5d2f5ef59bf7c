pub mod Views
pub mod WatchLemmas
pub mod Basics
pub mod Lemmas
