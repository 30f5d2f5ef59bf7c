pub mod ClipFilesRead
pub mod ForCallers
pub mod JudgementLemmas
pub mod NumberWords
pub mod RunFilesRead
pub mod ScriptsRead
pub mod Basics
pub mod Lemmas
