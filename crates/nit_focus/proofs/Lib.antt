pub mod Codes
pub mod Steps
pub mod ForCallers
pub mod Basics
pub mod Lemmas
