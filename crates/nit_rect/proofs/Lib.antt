pub mod Spans
pub mod Sets
pub mod Options
pub mod Lists
pub mod ForCallers
pub mod Basics
pub mod Lemmas
