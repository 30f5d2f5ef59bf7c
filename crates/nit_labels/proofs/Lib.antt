pub mod Counts
pub mod Runs
pub mod Least
pub mod Found
pub mod Basics
pub mod Lemmas
