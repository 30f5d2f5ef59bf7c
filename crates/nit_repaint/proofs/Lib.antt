pub mod WantedLemmas
pub mod ViewRemovalLemmas
pub mod ViewChangeLemmas
pub mod ForCallers
pub mod Basics
pub mod Lemmas
