pub mod MachineLemmas
pub mod Basics
pub mod Lemmas
