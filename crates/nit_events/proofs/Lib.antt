pub mod TextBytes
pub mod Examples
pub mod Choices
pub mod ForCallers
pub mod Basics
pub mod Lemmas
