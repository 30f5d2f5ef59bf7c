pub mod BookRuleLemmas
pub mod Basics
pub mod Lemmas
