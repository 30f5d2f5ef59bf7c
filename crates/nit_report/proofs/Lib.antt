pub mod GeneratedClients
mod Examples
mod GeneratedExamples
pub mod EntryLaws
pub mod DrawnLines
pub mod ForCallers
pub mod Basics
pub mod Lemmas
