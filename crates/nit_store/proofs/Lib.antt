pub mod NamedFiles
pub mod ForCallers
pub mod Basics
pub mod Lemmas
