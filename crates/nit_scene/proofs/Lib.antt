pub mod SceneLemmas
pub mod ListedGlasses
pub mod Basics
pub mod Lemmas
