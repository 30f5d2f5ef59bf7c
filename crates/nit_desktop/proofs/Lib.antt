pub mod DesktopLemmas
pub mod Basics
pub mod Lemmas
