pub mod GoodEntryLemmas
pub mod VerdictLemmas
mod KeyLemmas
mod Entries
pub mod ForCallers
pub mod Basics
pub mod Lemmas
